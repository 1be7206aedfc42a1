-- Requests: 1, 2 and 13 exactly.
use Rattle.std.specs.Prelude.{Option, Some, None}
use mathlib.Core.Path.{◌≡◌, refl, sym, ap, ◌∙◌}
use mathlib.Core.List.{List, [], ◌∷◌, ◌++◌, append-nil, flat_map}
use mathlib.Core.Bool.{Bool, true, false}
use mathlib.Core.Logic.{◌↔◌, ◌⊎◌, inl, inr}
use Prim.Native.Nat.{ℕ}
use native.Mathlib.Omega.{arith}
use Rattle.wire.specs.Bytes.{if}
use Rattle.wire.specs.Fields.{Got, go_on, give}
use Rattle.wire.specs.declared.Refusal.{Refusal}
use Rattle.wire.specs.declared.Refusal.TheVariants.{MoreBytes, UnknownInstruction, BadEscape}
use Rattle.basex_string.specs.Strings.{string}
use Rattle.basex_string.specs.Scan as scan
use Rattle.basex_string.proofs.Laws.{refuses}
use Rattle.basex.specs.declared.Reply.{Reply}
use Rattle.basex.specs.declared.Reply.TheVariants.{Query}
use Rattle.basex.specs.Kinds.{kinds, search, find_of, is_command, starts_command}
use Rattle.basex.specs.Request.{Request, encode, Published}
use Rattle.basex.specs.Texts.{texts}
use Rattle.basex.proofs.Texts.{texts_refuses}
use Rattle.basex_request.specs.Reading.{fields_of, reading}
use Rattle.basex_request.proofs.Behind.{refused-behind}
use Rattle.basex_request.proofs.Exact.{opened, reading_exact}
use Rattle.basex_request.proofs.Refusals.{InReading, reading_refuses}
use Rattle.basex_request.proofs.Table.{command_starts, starts_command_lem}
use Rattle.basex_laws.specs.Moments.{Encoded, Begun, BadRequest, RequestMoments}
use Rattle.basex_laws.proofs.Moments.Order.{begun-short, made}
use Rattle.basex_laws.proofs.Moments.Breaking.{breaking}
use Rattle.basex_laws.proofs.Moments.Strings.{string_moments}
use Rattle.basex_laws.proofs.Moments.Texts.{texts-more, texts-pair}

-- what a request was refused at: its first byte, its one text, or one of its strings
data Where (b : ℕ) (s : List ℕ) (r : Refusal) : Type 0 where
  unknown : find_of b ≡ None → r ≡ UnknownInstruction → Where b s r
  command : starts_command b ≡ true → scan.reading (b ∷ s) ≡ Got.refused r → Where b s r
  coded : (n : ℕ) (reply : Reply) → find_of b ≡ Some (n, reply) → is_command reply ≡ false → texts n s ≡ Got.refused r → Where b s r

module _ (b : ℕ) (s : List ℕ) (r : Refusal) where
  located : reading (b ∷ s) ≡ Got.refused r → Where b s r
  unfolding reading
  located e = by (find_of b) refl e
    where
      by : (f : Option (ℕ × Reply)) → find_of b ≡ f → fields_of b f s ≡ Got.refused r → Where b s r
      by None k e = Where.unknown k (cc)
      by (Some (n, reply)) k e = which (is_command reply) refl e
        where
          which : (c : Bool) → is_command reply ≡ c → if c (go_on (scan.reading (b ∷ s)) (λ t. give (Request.command t))) (go_on (texts n s) (λ ts. give (Request.coded b ts)))
              ≡ Got.refused r → Where b s r
          which true c e = Where.command (command_starts b n reply k c) ((made (scan.reading (b ∷ s)) Request.command r).0 e)
          which false c e = Where.coded n reply k c ((made (texts n s) (Request.coded b) r).0 e)

  refused-there : Where b s r → reading (b ∷ s) ≡ Got.refused r
  unfolding reading
  refused-there (Where.unknown k p) = rw (k, p) refl
  refused-there (Where.command h e) = rw (starts_command_lem b h) (rw e refl)
  refused-there (Where.coded n reply k c e) = rw k (rw c (rw e refl))

-- a beginning of a published request is completed where it was cut
short : (s : List ℕ) → reading s ≡ Got.refused MoreBytes → Begun (Encoded Published encode) s
unfolding encode flat_map string find_of kinds search
short [] e = record { missing = 0 ∷ 0 ∷ []; some = omega arith; whole = (Request.coded 0 ([] ∷ []), (Query, refl, refl), refl) }
short (b ∷ s) e = by (located b s MoreBytes e)
  where
    by : Where b s MoreBytes → Begun (Encoded Published encode) (b ∷ s)
    by (Where.unknown k p) = let z : ◌≡◌ {A = ℕ} 0 1 = cc in absurd (omega arith)
    by (Where.command h e) =
        let g = (string_moments.more (b ∷ s)).0 e in
        let t = g.whole.0 in
        record { missing = g.missing; some = g.some; whole = (Request.command t, opened t [] (s ++ g.missing) b (sym g.whole.2 ∙ sym (append-nil _)) h, g.whole.2) }
    by (Where.coded n reply k c e) =
        let g = (texts-more n s).0 e in
        record {
          missing = g.missing;
          some = g.some;
          whole = (
            Request.coded b g.whole.0,
            (reply, k ∙ ap (λ (m : ℕ). Some (m, reply)) (sym g.whole.1), c),
            ap
                (λ (l : List ℕ). b ∷ l) g.whole.2,
          );
        }

stays : (s : List ℕ) (r : Refusal) → reading s ≡ Got.refused r → (r ≡ MoreBytes) ⊎ ((more : List ℕ) → reading (s ++ more) ≡ Got.refused r)
stays s r e = by (reading_refuses s r e)
  where
    other : (r ≡ UnknownInstruction) ⊎ (r ≡ BadEscape) → r ≡ MoreBytes → ⊥
    other (inl p) q = let z : ◌≡◌ {A = ℕ} 0 1 = cc in omega arith
    other (inr p) q = let z : ◌≡◌ {A = ℕ} 0 1 = cc in omega arith

    by : InReading r → (r ≡ MoreBytes) ⊎ ((more : List ℕ) → reading (s ++ more) ≡ Got.refused r)
    by (inl p) = inl p
    by (inr p) = inr (λ more. refused-behind s more r (other p) e)

unknown-is : (s : List ℕ) → (reading s ≡ Got.refused UnknownInstruction) ↔ (b : ℕ) × (rest : List ℕ) × (s ≡ b ∷ rest) × (find_of b ≡ None)
unfolding reading
unknown-is s = (forth s, λ h. ap reading h.2 ∙ refused-there h.0 h.1 UnknownInstruction (Where.unknown h.3 refl))
  where
    none : (UnknownInstruction ≡ MoreBytes) ⊎ (UnknownInstruction ≡ BadEscape) → ⊥
    none (inl p) = let z : ◌≡◌ {A = ℕ} 0 1 = cc in omega arith
    none (inr p) = let z : ◌≡◌ {A = ℕ} 0 1 = cc in omega arith

    forth : (s : List ℕ) → reading s ≡ Got.refused UnknownInstruction → (b : ℕ) × (rest : List ℕ) × (s ≡ b ∷ rest) × (find_of b ≡ None)
    forth [] e = let z : ◌≡◌ {A = ℕ} 0 1 = cc in absurd (omega arith)
    forth (b ∷ s) e = by (located b s UnknownInstruction e)
      where
        by : Where b s UnknownInstruction → (c : ℕ) × (rest : List ℕ) × (b ∷ s ≡ c ∷ rest) × (find_of c ≡ None)
        by (Where.unknown k p) = (b, s, refl, k)
        by (Where.command h e) = absurd (none (refuses (b ∷ s) UnknownInstruction e))
        by (Where.coded n reply k c e) = absurd (none (texts_refuses n s UnknownInstruction e))

pair_is : (s : List ℕ) → (reading s ≡ Got.refused BadEscape) ↔ BadRequest s
unfolding reading
pair_is s = (forth s, back)
  where
    forth : (s : List ℕ) → reading s ≡ Got.refused BadEscape → BadRequest s
    forth [] e = let z : ◌≡◌ {A = ℕ} 0 1 = cc in absurd (omega arith)
    forth (b ∷ s) e = by (located b s BadEscape e)
      where
        by : Where b s BadEscape → BadRequest (b ∷ s)
        by (Where.unknown k p) = let z : ◌≡◌ {A = ℕ} 0 1 = cc in absurd (omega arith)
        by (Where.command h e) = BadRequest.command b s refl h ((string_moments.pair (b ∷ s)).0 e)
        by (Where.coded n reply k c e) = BadRequest.coded b n reply s refl k c ((texts-pair n s).0 e)

    back : BadRequest s → reading s ≡ Got.refused BadEscape
    back (BadRequest.command b left p h x) = ap reading p ∙ refused-there b left BadEscape (Where.command h (ap scan.reading (sym p) ∙ (string_moments.pair s).1 x))
    back (BadRequest.coded b n reply left p k c x) = ap reading p ∙ refused-there b left BadEscape (Where.coded n reply k c ((texts-pair n left).1 x))

none-short : reading [] ≡ Got.refused MoreBytes
unfolding reading
none-short = refl

more-is : (s : List ℕ) → (reading s ≡ Got.refused MoreBytes) ↔ Begun (Encoded Published encode) s
more-is s = (short s, begun-short reading Published encode reading_exact stays s)

pub request_moments : RequestMoments
request_moments = record { none = none-short; more = more-is; broken = breaking reading Published encode reading_exact more-is none-short; unknown = unknown-is; pair = pair_is }
