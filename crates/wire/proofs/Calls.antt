-- Calls one after another: what holds before each of them and makes it come out right holds after all of them.
use mathlib.Core.List.{List, [], ◌∷◌}
use Rattle.wire.specs.Calls.{Done, record_after_all, kept_after_all, AllRight}
use Rattle.wire.specs.Every.{Every}

module _ {Record Call Answer Kept : Type 0} (does : Record → Call → Done Record Answer) (keep : Kept → Call → Answer → Kept)
    (Right : Kept → Record → Call → Done Record Answer → Type 0) (Holds : Kept → Record → Type 0) where
  -- a call of that kind, on a record of which it holds, comes out right, and it holds again
  abbrev pub GoesFor : (Call → Type 0) → Type 0
  GoesFor Is = (k : Kept) (s : Record) (c : Call) → Is c → Holds k s → Right k s c (does s c) × Holds (keep k c (does s c).answer) (does s c).record_after

  pub all-right_for : (Is : Call → Type 0) → GoesFor Is → (k : Kept) (s : Record) (calls : List Call) → Every Is calls → Holds k s
      → AllRight does keep Right k s calls
  all-right_for Is goes k s [] are h = tt
  all-right_for Is goes k s (c ∷ calls) are h = ((goes k s c are.0 h).0, all-right_for Is goes (keep k c (does s c).answer) (does s c).record_after calls are.1 (goes k s c are.0 h).1)

  pub holds_after_for : (Is : Call → Type 0) → GoesFor Is → (k : Kept) (s : Record) (calls : List Call) → Every Is calls → Holds k s
      → Holds (kept_after_all does keep k s calls) (record_after_all does s calls)
  holds_after_for Is goes k s [] are h = h
  holds_after_for Is goes k s (c ∷ calls) are h = holds_after_for Is goes (keep k c (does s c).answer) (does s c).record_after calls are.1 (goes k s c are.0 h).1

  -- the same where every call is of that kind
  abbrev pub Goes : Type 0
  Goes = (k : Kept) (s : Record) (c : Call) → Holds k s → Right k s c (does s c) × Holds (keep k c (does s c).answer) (does s c).record_after

  any : (calls : List Call) → Every (λ _. Unit {0}) calls
  any [] = tt
  any (c ∷ calls) = (tt, any calls)

  pub all_right : Goes → (k : Kept) (s : Record) (calls : List Call) → Holds k s → AllRight does keep Right k s calls
  all_right goes k s calls h = all-right_for (λ _. Unit {0}) (λ k s c _. goes k s c) k s calls (any calls) h

  pub holds_after : Goes → (k : Kept) (s : Record) (calls : List Call) → Holds k s → Holds (kept_after_all does keep k s calls) (record_after_all does s calls)
  holds_after goes k s calls h = holds_after_for (λ _. Unit {0}) (λ k s c _. goes k s c) k s calls (any calls) h
