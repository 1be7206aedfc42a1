-- What a refusal leaves.
use mathlib.Core.{Bool.true, List.List, Logic.◌⊎◌, Path.◌≡◌}
use Rattle.std.specs.Prelude.{ℕ}
use lib.{Dec.eqb, ListN.length}
use Rattle.wire.specs.Bytes.{if}
use Rattle.sedna.specs.Message.{Message}
use Rattle.parts_join.specs.{declared.Assembly.Assembly, Joining.joined, Joining.buffer_after}

-- the record with the mark, and nothing else changed
abbrev pub spoilt : Assembly → Assembly
spoilt a = record { what = a.what; begun = a.begun; held = a.held; overflowed = true; label = a.label }

-- the call that joined m to a, with a buffer d, was refused with n
pub record RefusalLeaves (a : Assembly) (d : List ℕ) (m : Message) (n : ℕ) : Type 0 where
  -- "When joining: 8, 9, 12."
  pub listed : (n ≡ 8) ⊎ (n ≡ 9) ⊎ (n ≡ 12)
  -- "A refusal returns its number alone ...; buffers and session record stay unchanged."
  pub buffer : buffer_after a d m ≡ d
  -- "Only a gathering that met 12 is marked spoilt."
  pub assembly : (joined a (length d) m).assembly ≡ if (eqb n 12) (spoilt a) a
