-- Storing the text of a string that was judged, some bytes at a time.
use mathlib.Core.{List.List, List.[], Path.◌≡◌}
use Rattle.std.specs.Prelude.{ℕ, ◌+◌, ◌≤◌, ◌<◌, length, drop}
use Rattle.wire.specs.{Bytes.splice, Fields.Got}
use Rattle.basex_string.specs.Scan.{reading}

-- the text that was read, nothing where there is none
abbrev pub text_read : Got (List ℕ) → List ℕ
text_read (Got.refused r) = []
text_read (Got.got s rest) = s

-- so many bytes of text stand from `from` on, and they fit from `to` on
pub record Remains (bytes : List ℕ) (from : ℕ) (out : List ℕ) (to most : ℕ) : Type 0 where
  pub size : most ≡ length (text_read (reading (drop from bytes)))
  pub fits : to + most ≤ length out

-- some of them were stored, and those from `next` on are still to come
pub record StoredSome (bytes : List ℕ) (from next : ℕ) (out after : List ℕ) (to most count : ℕ) : Type 0 where
  pub some : 0 < count
  pub adds : count + length (text_read (reading (drop next bytes))) ≡ most
  pub makes : splice after (to + count) (text_read (reading (drop next bytes))) ≡ splice out to (text_read (reading (drop from bytes)))
