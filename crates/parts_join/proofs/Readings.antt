-- The readings of document 01 that are easily got wrong, each as a list of calls with a buffer of two bytes, from a fresh opening.
use mathlib.Core.List.{List, [], ◌∷◌}
use mathlib.Core.Path.{◌≡◌, refl}
use Prim.Native.Nat.{ℕ}
use Rattle.wire.specs.Bytes.{splice}
use Rattle.wire.specs.Every.{Every}
use Rattle.sedna.specs.Allowed.{allowed, format_allowed, version_allowed, class_allowed, type_allowed}
use Rattle.sedna.specs.Message.{Url, Body, Message, message}
use Rattle.sedna.specs.Names as M
use Rattle.sedna.specs.Table.{rows, search, find_of}
use Rattle.parts_join.specs.declared.Open.{Open}
use Rattle.parts_join.specs.declared.Open.TheVariants as gathering
use Rattle.parts_join.specs.Answers.{Reply}
use Rattle.parts_join.specs.Calls.{opened_with, run}
use Rattle.parts_join.specs.Joining.{fitted, joined_as, joined, buffer_after}
use Rattle.parts_join.specs.Roles.{together, role_of}

abbrev no : ℕ → Reply
no = Reply.number

abbrev yes : Reply
yes = Reply.taken

abbrev statement : List ℕ → Message
statement t = message M.Execute (Body.statement 0 t)

abbrev long : ℕ → List ℕ → Message
long format t = message M.ExecuteLong (Body.statement format t)

abbrev long-end : Message
long-end = message M.LongQueryEnd Body.empty

abbrev start : List ℕ → Message
start t = message M.ItemStart (Body.item 1 24 (Url.present (9 ∷ 9 ∷ 9 ∷ [])) t)

abbrev part : List ℕ → Message
part t = message M.ItemPart (Body.text t)

abbrev item-end : Message
item-end = message M.ItemEnd Body.empty

abbrev result_end : Message
result_end = message M.ResultEnd Body.empty

abbrev debug : Message
debug = message M.DebugInfo (Body.coded 0 [])

abbrev bad_version : Message
bad_version = message M.SessionParameters (Body.session 9 0 [] [])

-- what was opened, what was offered, and what was answered
record Case : Type 0 where
  pub what : Open
  pub offers : List Message
  pub answers : List Reply

abbrev case : Open → List Message → List Reply → Case
case what offers answers = record { what = what; offers = offers; answers = answers }

abbrev cases : List Case
cases =
    -- 8 comes first: with nothing open, once spoilt, and for another kind
    case gathering.Nothing (long 2 [] ∷ []) (no 8 ∷ []) ∷
    case gathering.Statement (long 0 (7 ∷ 7 ∷ 7 ∷ []) ∷ long 2 [] ∷ bad_version ∷ []) (no 12 ∷ no 8 ∷ no 8 ∷ []) ∷
    -- once spoilt, 12 ahead of the 9 for a second ItemStart, an ItemPart or an end with no part before, and Execute after a part
    case gathering.TypedItem (start (7 ∷ 7 ∷ 7 ∷ []) ∷ start [] ∷ part [] ∷ item-end ∷ []) (no 12 ∷ no 12 ∷ no 12 ∷ no 12 ∷ []) ∷
    case gathering.Statement (long 0 [] ∷ long 0 (7 ∷ 7 ∷ 7 ∷ []) ∷ statement [] ∷ long-end ∷ []) (yes ∷ no 12 ∷ no 12 ∷ no 12 ∷ []) ∷
    -- but another kind is 9 there too
    case gathering.Item (part (7 ∷ 7 ∷ 7 ∷ []) ∷ debug ∷ start [] ∷ long-end ∷ []) (no 12 ∷ no 9 ∷ no 9 ∷ no 9 ∷ []) ∷
    -- 9 ahead of the overrun, and then nothing is spoilt
    case gathering.TypedItem (part (7 ∷ 7 ∷ 7 ∷ []) ∷ start (7 ∷ []) ∷ start (7 ∷ 7 ∷ 7 ∷ []) ∷ part (8 ∷ []) ∷ item-end ∷ []) (no 9 ∷ yes ∷ no 9 ∷ yes ∷ Reply.whole (1 ∷ 24 ∷ []) 2 ∷ []) ∷
    case gathering.Statement (long 0 (7 ∷ []) ∷ statement (7 ∷ 7 ∷ 7 ∷ []) ∷ long-end ∷ []) (yes ∷ no 9 ∷ Reply.whole (0 ∷ []) 1 ∷ []) ∷
    -- no later, shorter part is stored after one that found no room
    case gathering.Item (part (7 ∷ []) ∷ part (7 ∷ 7 ∷ []) ∷ part (7 ∷ []) ∷ item-end ∷ []) (yes ∷ no 12 ∷ no 12 ∷ no 12 ∷ []) ∷
    -- an exact fit, and an empty part in a full buffer
    case gathering.Item (part (7 ∷ 7 ∷ []) ∷ part [] ∷ item-end ∷ []) (yes ∷ yes ∷ Reply.whole [] 2 ∷ []) ∷
    -- nothing open: every part and end is 9, also after an accepted end and after Execute
    case gathering.Nothing (long 0 [] ∷ part [] ∷ item-end ∷ []) (no 9 ∷ no 9 ∷ no 9 ∷ []) ∷
    case gathering.Statement (statement (7 ∷ []) ∷ statement [] ∷ long 0 [] ∷ long-end ∷ []) (Reply.whole (0 ∷ []) 1 ∷ no 9 ∷ no 9 ∷ no 9 ∷ []) ∷
    -- parts are counted, not bytes
    case gathering.Statement (long-end ∷ long 1 [] ∷ long-end ∷ []) (no 9 ∷ yes ∷ Reply.whole (1 ∷ []) 0 ∷ []) ∷
    case gathering.TypedItem (item-end ∷ start [] ∷ item-end ∷ []) (no 9 ∷ yes ∷ Reply.whole (1 ∷ 24 ∷ []) 0 ∷ []) ∷
    -- ItemEnd and ResultEnd both end an item, and neither ends none
    case gathering.Item (result_end ∷ part (7 ∷ []) ∷ debug ∷ result_end ∷ []) (no 9 ∷ yes ∷ no 9 ∷ Reply.whole [] 1 ∷ []) ∷
    -- the first part's format counts, later ones are checked and otherwise ignored
    case gathering.Statement (long 1 (7 ∷ []) ∷ long 2 [] ∷ long 0 (7 ∷ []) ∷ long-end ∷ []) (yes ∷ no 8 ∷ yes ∷ Reply.whole (1 ∷ []) 2 ∷ []) ∷
    -- a body that is not its instruction's is another kind
    case gathering.Statement (message M.ExecuteLong (Body.text []) ∷ message M.Execute Body.empty ∷ []) (no 9 ∷ no 9 ∷ []) ∷
    []

each_so : Every (λ (c : Case). (run (opened_with c.what (0 ∷ 0 ∷ [])) c.offers).replies ≡ c.answers) cases
unfolding run buffer_after joined joined_as fitted role_of together find_of search rows allowed format_allowed version_allowed class_allowed type_allowed splice
each_so = (refl, (refl, (refl, (refl, (refl, (refl, (refl, (refl, (refl, (refl, (refl, (refl, (refl, (refl, (refl, (refl, tt))))))))))))))))
