-- What the writer's steps put, one behind the other.
use mathlib.Core.{Bool.Bool, Bool.false, List.List, List.[], List.◌∷◌, List.◌++◌}
use Rattle.std.specs.Prelude.{ℕ}
use lib.{Dec.ltb}
use Rattle.wire.specs.Bytes.{if}
use Rattle.basex_string.specs.Strings.{string}
use Rattle.basex.specs.{declared.Reply.Reply, Kinds.ahead, Kinds.behind, Kinds.listed, Kinds.status_allowed, Texts.place_if, Texts.string_if}

-- the 00 behind the items
abbrev pub zero_if : Bool → List ℕ
zero_if present = if present (0 ∷ []) []

-- an item: id, URI where it has one, text
abbrev pub item_parts : Bool → ℕ → List ℕ → List ℕ → List ℕ
item_parts uris id uri text = (id ∷ []) ++ (string_if uris uri ++ string text)

-- up to two strings
abbrev pub ahead_parts : ℕ → List ℕ → List ℕ → List ℕ
ahead_parts n first second = string_if (ltb 0 n) first ++ string_if (ltb 1 n) second

-- the 00 where there is a list, the status, and the error where there is one
abbrev pub last_parts : Bool → ℕ → ℕ → List ℕ → List ℕ
last_parts list status n error = zero_if list ++ ((status ∷ []) ++ string_if (ltb 0 n) error)

abbrev pub end_parts : Reply → List ℕ → List ℕ → ℕ → List ℕ → List ℕ
end_parts reply first second status error = ahead_parts (ahead reply) first second ++ last_parts (listed reply) status (behind reply status) error

-- an end that may be written: "Status above 01: 8.", and no text that the response does not take
abbrev pub end_allowed : Reply → List ℕ → List ℕ → ℕ → List ℕ → Bool
end_allowed reply first second status error =
    if (status_allowed status)
    (if (place_if (ltb 0 (ahead reply)) first)
    (if (place_if (ltb 1 (ahead reply)) second)
    (place_if (ltb 0 (behind reply status)) error)
    false)
    false)
    false
