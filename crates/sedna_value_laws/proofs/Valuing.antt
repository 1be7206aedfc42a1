-- The value of any text, exactly; and what follows of instants.
use mathlib.Core.List.{List}
use mathlib.Core.Option.{some}
use mathlib.Core.Path.{◌≡◌, subst}
use Prim.Native.Nat.{ℕ}
use Rattle.sedna_value_laws.specs.Exactly.{Valuing}
use Rattle.sedna_value_laws.specs.Incident.{Incident}
use Rattle.sedna_value_laws.specs.Order.{HandedProper}
use Rattle.sedna_value_laws.specs.Texts.{Kind, kind_of}
use Rattle.sedna_value_laws.proofs.Booleans.{boolean_reader}
use Rattle.sedna_value_laws.proofs.ByKind.{read_by, whole-type}
use Rattle.sedna_value_laws.proofs.DateTimes.{instant_reader}
use Rattle.sedna_value_laws.proofs.Doubles.{double_reader}
use Rattle.sedna_value_laws.proofs.Exactly.{exact}
use Rattle.sedna_value_laws.proofs.Handed.{handed-proper}
use Rattle.sedna_value_laws.proofs.Incident as incident
use Rattle.sedna_value_laws.proofs.Reader.{Reader}
use Rattle.sedna_value_laws.proofs.Wholes.{whole_reader}

readers : (n : ℕ) (k : Kind) → kind_of n ≡ some k → Reader k (read_by k)
readers n (Kind.whole w) e = whole_reader w (subst (λ (m : ℕ). kind_of m ≡ some (Kind.whole w)) (whole-type n w e) e)
readers n Kind.instant e = instant_reader
readers n Kind.boolean e = boolean_reader
readers n Kind.double e = double_reader

pub valuing : (class type : ℕ) (s : List ℕ) → Valuing class type s
valuing = exact readers

pub proper : HandedProper
proper = handed-proper valuing

pub the_incident : Incident
the_incident = incident.incident instant_reader
