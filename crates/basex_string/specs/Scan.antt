-- Reading a string off the front: "13 as soon as the pair is there", 1 where the end is missing.
use mathlib.Core.{Bool.Bool, Bool.true, Bool.false, List.List, List.[], List.◌∷◌}
use Rattle.std.specs.Prelude.{ℕ, eqb}
use Rattle.wire.specs.{Bytes.if, Fields.Got, Fields.Field, declared.Refusal.TheVariants.MoreBytes, declared.Refusal.TheVariants.BadEscape}
use Rattle.basex_string.specs.Strings.{special}

abbrev pub push : ℕ → Got (List ℕ) → Got (List ℕ)
push b (Got.refused r) = Got.refused r
push b (Got.got s rest) = Got.got (b ∷ s) rest

-- the first says whether an FF was read that escapes the next byte
unfoldable pub scan : Bool → Field (List ℕ)
scan e [] = Got.refused MoreBytes
scan true (b ∷ s) = if (special b) (push b (scan false s)) (Got.refused BadEscape)
scan false (b ∷ s) = if (eqb b 0) (Got.got [] s) (if (eqb b 255) (scan true s) (push b (scan false s)))

abbrev pub reading : Field (List ℕ)
reading = scan false
