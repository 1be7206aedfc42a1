-- What the reader's steps answer, one for each part of a response, and what it may rely on when it stores.
use Rattle.std.specs.Prelude.{Result, Ok, Err, ℕ, ◌+◌, ◌-◌, ◌≤◌, length}
use Rattle.wire.specs.declared.Refusal.{Refusal}
use mathlib.Core.{List.List, List.[], List.flatten, Path.◌≡◌}
use Rattle.wire.specs.{Bytes.splice, Fields.Got, Fields.Field, Fields.◌>>=◌, Fields.◌>>◌, Fields.give, Fields.required}
use Rattle.wire.specs.declared.Refusal.TheVariants.{ValueNotAllowed}
use Rattle.basex.specs.{declared.Reply.Reply, Kinds.behind, Kinds.status_allowed, Response.Item, Response.Response}
use Rattle.basex.specs.Texts.{texts, length_at, TextsStored}
use Rattle.basex_response.specs.{declared.items.ItemsAt.ItemsAt, declared.read.EndAt.EndAt, Items.item_texts}
use Rattle.basex_response.specs.Reading.{byte_field, all_texts}

-- an end that is there
abbrev pub found_end : ℕ → ℕ → ℕ → Result EndAt Refusal
found_end status error next = Ok (record { status = status; error = error; next = next })

-- a list that is there
abbrev pub items_there : ℕ → ℕ → ℕ → Result ItemsAt Refusal
items_there count listed next = Ok (record { count = count; listed = listed; next = next })

-- of n bytes from `at` on, a list: how many items, how long their texts are together, and where what follows starts
abbrev pub items_at : ℕ → ℕ → Got (List Item) → Result ItemsAt Refusal
items_at at n (Got.refused r) = Err r
items_at at n (Got.got is rest) = items_there (length is) (length (flatten (item_texts is))) (at + (n - length rest))

-- the last fields: the status, and the strings behind it
pub record Ending : Type 0 where
  pub status : ℕ
  pub error : List (List ℕ)

unfoldable pub ending : Reply → Field Ending
ending reply = do
  status ← byte_field
  required (status_allowed status) ValueNotAllowed
  es ← texts (behind reply status)
  give (record { status = status; error = es })

-- of n bytes from `at` on, the last fields: the status, how long the error is, and where what follows starts
abbrev pub end_at : ℕ → ℕ → Got Ending → Result EndAt Refusal
end_at at n (Got.refused r) = Err r
end_at at n (Got.got e rest) = found_end e.status (length_at e.error 0) (at + (n - length rest))

-- a list was read with so many items, and their texts fit from `to` on
abbrev pub ListFits : ℕ → ℕ → ℕ → Got (List Item) → Type 0
ListFits count to room (Got.refused r) = ⊥
ListFits count to room (Got.got is rest) = (count ≡ length is) × (to + length (flatten (item_texts is)) ≤ room)

-- its texts put from `to` on: what the output holds, where it is free again, and what is left to read
abbrev pub list_stored : List ℕ → ℕ → Got (List Item) → TextsStored
list_stored out to (Got.refused r) = record { out = out; to = to; rest = [] }
list_stored out to (Got.got is rest) =
    record { out = splice out to (flatten (item_texts is)); to = to + length (flatten (item_texts is)); rest = rest }

-- a response was read with so many items and that status, and its texts fit
abbrev pub Fits : ℕ → ℕ → ℕ → Got Response → Type 0
Fits items status room (Got.refused r) = ⊥
Fits items status room (Got.got p rest) = (items ≡ length p.items) × (status ≡ p.status) × (length (flatten (all_texts p)) ≤ room)
