-- The order of instants, by their two numbers and as points in time: strict and total.
use mathlib.Core.Bool.{Bool, true, false}
use mathlib.Core.Logic.{◌↔◌, ◌⊎◌, inl, inr}
use mathlib.Core.Path.{◌≡◌, refl, sym, ◌∙◌, ap, subst}
use Prim.Native.Nat.{ℕ, zero, suc, ◌+◌, ◌-◌, ◌*◌, ◌<◌}
use native.Mathlib.Omega.{arith}
use borrow.Author.Tests.{ltb-true, ltb-false, lt-ltb}
use lib.Dec.{T, ltb, lt→ltb, ltb→lt, le→leb}
use lib.IntN.{ℤ, pos, negsuc, neg_ℤ, ◌+ℤ◌, ◌*ℤ◌}
use lib.Signed.{lt_z, ◌≤ℤ◌, ◌<ℤ◌, lt_z_yes, <ℤ-≤ℤ_trans, <ℤ_irrefl}
use Rattle.wire.specs.Bytes.{if}
use Rattle.wire.proofs.Branches.{apart}
use Rattle.sedna_instant.specs.declared.Instant.{Instant}
use Rattle.std.specs.declared.cmp.Ordering.{Ordering}
use Rattle.std.specs.declared.cmp.Ordering.TheVariants.{Less, Equal, Greater}
use Rattle.sedna_instant.specs.Orders.{ordered}
use Rattle.sedna_value_laws.specs.Order.{point, Proper, Before, Ordered, Strict}

-- ---- an order, whatever it is of: what holds of a and b where a lies so to b

abbrev pub Lies : {A : Type 0} → (A → A → Type 0) → A → A → Ordering → Type 0
Lies first a b Less = first a b
Lies first a b Equal = a ≡ b
Lies first a b Greater = first b a

-- where of two only one comes first, one order holds, so that each is exactly what it says
module _ {A : Type 0} (first : A → A → Type 0) (one_way : (a b : A) → first a b → first b a → ⊥) (a b : A) where
  differ : (a b : A) → first a b → a ≡ b → ⊥
  differ a b p e = let q = subst (λ (x : A). first x b) e p in one_way b b q q

  one_order : (o p : Ordering) → Lies first a b o → Lies first a b p → o ≡ p
  one_order Less Less x y = refl
  one_order Less Equal x y = absurd (differ a b x y)
  one_order Less Greater x y = absurd (one_way a b x y)
  one_order Equal Less x y = absurd (differ a b y x)
  one_order Equal Equal x y = refl
  one_order Equal Greater x y = absurd (differ b a y (sym x))
  one_order Greater Less x y = absurd (one_way a b y x)
  one_order Greater Equal x y = absurd (differ b a x (sym y))
  one_order Greater Greater x y = refl

  exactly : (o : Ordering) → Lies first a b o → (p : Ordering) → (o ≡ p) ↔ Lies first a b p
  exactly o x p = (λ e. subst (Lies first a b) e x, one_order o p x)

-- ---- by the seconds, then by the nanoseconds

below : (x y : ℤ) → lt_z x y ≡ true → x <ℤ y
below x y e = lt_z_yes (subst T (sym e) tt)

-- neither below the other
level : (x y : ℤ) → lt_z x y ≡ false → lt_z y x ≡ false → x ≡ y
level (pos a) (pos b) e f = let p = ltb-false a b e in let q = ltb-false b a f in ap pos (omega arith)
level (pos a) (negsuc b) e f = apart (cc)
level (negsuc a) (pos b) e f = apart (cc)
level (negsuc a) (negsuc b) e f = let p = ltb-false b a e in let q = ltb-false a b f in ap negsuc (omega arith)

pub order_is : (a b : Instant) → Lies Before a b (ordered a b)
unfolding ordered
order_is a b = by (lt_z a.seconds b.seconds) refl (lt_z b.seconds a.seconds) refl (ltb a.nanos b.nanos) refl (ltb b.nanos a.nanos) refl
  where
    by : (p : Bool) → lt_z a.seconds b.seconds ≡ p → (q : Bool) → lt_z b.seconds a.seconds ≡ q → (m : Bool) → ltb a.nanos b.nanos ≡ m
        → (n : Bool) → ltb b.nanos a.nanos ≡ n → Lies Before a b (if p Less (if q Greater (if m Less (if n Greater Equal))))
    by true e q f m g n h = inl (below _ _ e)
    by false e true f m g n h = inl (below _ _ f)
    by false e false f true g n h = inr (level _ _ e f, ltb-true _ _ g)
    by false e false f false g true h = inr (level _ _ f e, ltb-true _ _ h)
    by false e false f false g false h =
        let p = ltb-false a.nanos b.nanos g in
        let q = ltb-false b.nanos a.nanos h in
        let s = level _ _ e f in
        let n : a.nanos ≡ b.nanos = omega arith in
        λ i. record { seconds = s i; nanos = n i }

<ℤ-trans : {x y z : ℤ} → x <ℤ y → y <ℤ z → x <ℤ z
<ℤ-trans {x} {y} {z} p q = <ℤ-≤ℤ_trans p (weak y z q)
  where
    weak : (y z : ℤ) → y <ℤ z → y ≤ℤ z
    weak (pos a) (pos b) h = record { le = le→leb a b (omega (arith, ltb→lt a b h.lt)) }
    weak (pos a) (negsuc b) h = absurd h.lt
    weak (negsuc a) (pos b) h = record { le = tt }
    weak (negsuc a) (negsuc b) h = record { le = le→leb b a (omega (arith, ltb→lt b a h.lt)) }

before_trans : (a b c : Instant) → Before a b → Before b c → Before a c
before_trans a b c (inl p) (inl q) = inl (<ℤ-trans p q)
before_trans a b c (inl p) (inr (e, q)) = inl (subst (λ (z : ℤ). a.seconds <ℤ z) e p)
before_trans a b c (inr (e, p)) (inl q) = inl (subst (λ (z : ℤ). z <ℤ c.seconds) (sym e) q)
before_trans a b c (inr (e, p)) (inr (f, q)) = inr (e ∙ f, omega arith)

never_itself : (a : Instant) → Before a a → ⊥
never_itself a (inl p) = <ℤ_irrefl p
never_itself a (inr (e, p)) = omega arith

-- the order is exactly how one lies to the other
pub instants : (a b : Instant) (o : Ordering) → (ordered a b ≡ o) ↔ Lies Before a b o
instants a b = exactly Before (λ x y p q. never_itself x (before_trans x y x p q)) a b (ordered a b) (order_is a b)

-- ---- points in time

-- below zero
under : (x n : ℕ) → n < x → neg_ℤ (pos x) +ℤ pos n ≡ negsuc (x - suc n)
under zero n h = absurd (omega arith)
under (suc y) n h = rw (lt-ltb n (suc y) h) refl

-- the point of so many seconds and nanoseconds
abbrev point_of : ℤ → ℕ → ℤ
point_of x n = x *ℤ pos 1000000000 +ℤ pos n

negative : (a n : ℕ) → n < 1000000000 → point_of (negsuc a) n ≡ negsuc (suc a * 1000000000 - suc n)
negative a n h = under (suc a * 1000000000) n (omega arith)

less : (a b : ℕ) → a < b → pos a <ℤ pos b
less a b h = lt_z_yes (lt→ltb a b h)

less_negative : (a b : ℕ) → b < a → negsuc a <ℤ negsuc b
less_negative a b h = lt_z_yes (lt→ltb b a h)

by_seconds : (x y : ℤ) (m n : ℕ) → m < 1000000000 → n < 1000000000 → x <ℤ y → point_of x m <ℤ point_of y n
by_seconds (pos a) (pos b) m n g h p = let l = ltb→lt a b p.lt in less (a * 1000000000 + m) (b * 1000000000 + n) (omega arith)
by_seconds (pos a) (negsuc b) m n g h p = absurd p.lt
by_seconds (negsuc a) (pos b) m n g h p = rw (negative a m g) (lt_z_yes tt)
by_seconds (negsuc a) (negsuc b) m n g h p =
    let l = ltb→lt b a p.lt in
    rw (negative a m g, negative b n h) (less_negative (suc a * 1000000000 - suc m) (suc b * 1000000000 - suc n) (omega arith))

by_nanos : (x : ℤ) (m n : ℕ) → m < 1000000000 → n < 1000000000 → m < n → point_of x m <ℤ point_of x n
by_nanos (pos a) m n g h l = less (a * 1000000000 + m) (a * 1000000000 + n) (omega arith)
by_nanos (negsuc a) m n g h l = rw (negative a m g, negative a n h) (less_negative (suc a * 1000000000 - suc m) (suc a * 1000000000 - suc n) (omega arith))

-- what comes first is the earlier point
before-point : (a b : Instant) → Proper a → Proper b → Before a b → point a <ℤ point b
before-point a b g h (inl p) = by_seconds a.seconds b.seconds a.nanos b.nanos g h p
before-point a b g h (inr (e, l)) = subst (λ (z : ℤ). point a <ℤ point_of z b.nanos) e (by_nanos a.seconds a.nanos b.nanos g h l)

points : (a b : Instant) → Proper a → Proper b → (o : Ordering) → (ordered a b ≡ o) ↔ Lies ◌<ℤ◌ (point a) (point b) o
points a b g h = exactly ◌<ℤ◌ (λ x y p q. <ℤ_irrefl (<ℤ-trans p q)) (point a) (point b) (ordered a b) (lies (ordered a b) (order_is a b))
  where
    lies : (o : Ordering) → Lies Before a b o → Lies ◌<ℤ◌ (point a) (point b) o
    lies Less p = before-point a b g h p
    lies Equal e = ap point e
    lies Greater p = before-point b a h g p

-- ---- what is stated

pub in_order : (a b : Instant) → Ordered a b
in_order a b = record {
  earlier = λ g h. points a b g h Less;
  same = λ g h. points a b g h Equal;
  later = λ g h. points a b g h Greater;
  both = instants a b Equal;
  turned = (λ e. (instants b a Greater).1 ((instants a b Less).0 e), λ e. (instants a b Less).1 ((instants b a Greater).0 e));
}

pub strict : Strict
strict = record {
  irreflexive = λ a e. never_itself a ((instants a a Less).0 e);
  total = λ a b n. by a b n (ordered a b) (order_is a b);
  transitive = λ a b c e f. (instants a c Less).1 (before_trans a b c ((instants a b Less).0 e) ((instants b c Less).0 f));
}
  where
    by : (a b : Instant) → ¬ (a ≡ b) → (o : Ordering) → Lies Before a b o → (ordered a b ≡ Less) ⊎ (ordered b a ≡ Less)
    by a b n Less p = inl ((instants a b Less).1 p)
    by a b n Equal p = absurd (n p)
    by a b n Greater p = inr ((instants b a Less).1 p)
