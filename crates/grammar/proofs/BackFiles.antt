-- The same of files that are loaded, and of a list that is put in front.
use mathlib.Core.Path.{◌≡◌, refl, ◌∙◌}
use mathlib.Core.List.{List, [], ◌∷◌}
use Rattle.grammar.specs.Sent.{Version, Sent}
use Rattle.sedna.specs.Names as M
use Rattle.grammar.specs.Grammar as G
use Rattle.grammar.proofs.Linear as L
use Rattle.grammar.proofs.Linear.{Place}
use Rattle.grammar.proofs.From as F
use Rattle.grammar.proofs.From.{from, laid, results, loads}

-- a list that is put in front, one by one, is read back as that list
abbrev pub puts : {A K : Type 0} → (A → K → K) → List A → K → K
puts f [] k = k
puts f (a ∷ l) k = f a (puts f l k)

pub puts_back : {A K X : Type 0} (f : A → K → K) (g : K → List A × X) → ((a : A) (k : K) → g (f a k) ≡ (a ∷ (g k).0, (g k).1))
    → (l : List A) (k : K) (x : X) → g k ≡ ([], x) → g (puts f l k) ≡ (l, x)
puts_back f g e [] k x h = h
puts_back f g e (a ∷ l) k x h = e a (puts f l k) ∙ (λ i. (a ∷ (puts_back f g e l k x h i).0, (puts_back f g e l k x h i).1))

-- bulk loads
abbrev pub to-file : {v : Version} {e : Place} → G.File M.BulkLoadEnd → L.FileAnswer v e → L.File v e
to-file (G.file l b) k = puts L.f_portion l (L.f_end b k)

abbrev pub to-broken-file : {v : Version} → G.BrokenFile → L.File v L.ended
to-broken-file (G.file l b) = puts L.f_portion l (L.f_broken b)

pub file_back : {v : Version} {e : Place} (l : List (Sent M.BulkLoadPortion)) (k : L.File v e) (x : F.FileTail v e)
    → F.from-file k ≡ ([], x) → loads (puts L.f_portion l k) ≡ F.shut l x
file_back l k x h =
    let e = puts_back L.f_portion F.from-file (λ b k. refl) l k x h in
    λ i. F.shut (e i).0 (e i).1

pub broken-file_back : (v : Version) (f : G.BrokenFile) → loads (to-broken-file {v = v} f) ≡ ([], f)
broken-file_back v (G.file l b) = file_back {v = v} l (L.f_broken b) (F.then-broken b) refl

abbrev pub to-more : {v : Version} {e : Place} → G.MoreFiles v → L.File v e → L.File v e
to-more (G.another f g n) k = to-file f (L.b_another g n k)

pub more_back : {v : Version} {e : Place} (m : G.MoreFiles v) (k : L.File v e) → loads (to-more m k) ≡ (m ∷ (loads k).0, (loads k).1)
more_back (G.another (G.file l b) g n) k = file_back l (L.f_end b (L.b_another g n k)) (F.then-file b g n (loads k)) refl

abbrev pub to-last-file : {v : Version} → G.LastFile → L.File v L.inside
to-last-file (G.loaded f b) = to-file f (L.b_succeeded b)
to-last-file (G.not_loaded f (G.well b)) = to-file f (L.b_failed b)
to-last-file (G.not_loaded f (G.wrong b)) = to-file f (L.b_error b)
to-last-file (G.lost (G.file l b) a) = puts L.f_portion l (L.f_lost b a)

pub last-file_back : (v : Version) (x : G.LastFile) → loads (to-last-file {v = v} x) ≡ ([], x)
last-file_back v (G.loaded (G.file l b) x) = file_back {v = v} l (L.f_end b (L.b_succeeded x)) (F.then-loaded b x) refl
last-file_back v (G.not_loaded (G.file l b) (G.well x)) = file_back {v = v} l (L.f_end b (L.b_failed x)) (F.then-failed b (G.well x)) refl
last-file_back v (G.not_loaded (G.file l b) (G.wrong x)) = file_back {v = v} l (L.f_end b (L.b_error x)) (F.then-failed b (G.wrong x)) refl
last-file_back v (G.lost (G.file l b) x) = file_back {v = v} l (L.f_lost b x) (F.then-lost b x) refl
