-- A cut that is joined again: its messages are a cutting of the text, so joining them hands the text over.
use mathlib.Core.{List.List, Path.◌≡◌}
use Rattle.std.specs.Prelude.{ℕ, ◌≤◌, length}
use Rattle.sedna.specs.Message.{Url, Message}
use Rattle.parts_join.specs.{declared.Open.Open, Cuttings.Cutting, Cuttings.messages, Cuttings.opening, Cuttings.values, Cuttings.whole, Cuttings.Joins}

-- "(u above 10,227: 11)"
abbrev pub UrlFits : Url → Type 0
UrlFits Url.absent = Unit {0}
UrlFits (Url.present url) = length url ≤ 10227

-- joined from the opening `what`, with a buffer d, the messages give back the text, with the format, or class and type
pub record Rejoined (what : Open) (cut : List Message) (said text d : List ℕ) : Type 0 where
  pub cutting : Cutting
  pub parts : messages cutting ≡ cut
  pub opens : opening cutting ≡ what
  pub says : values cutting ≡ said
  pub text_of : whole cutting ≡ text
  -- where the text fits the buffer, its front part is the text; where it does not, 12
  pub joins : Joins cutting d
