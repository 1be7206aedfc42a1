-- Each body is read off its bytes, and whatever is read as a body is its bytes.
use mathlib.Core.Path.{◌≡◌, refl, sym, ◌∙◌}
use mathlib.Core.List.{List, [], ◌∷◌, ◌++◌, append_assoc, append-nil}
use mathlib.Core.Bool.{true}
use Prim.Native.Nat.{ℕ}
use lib.ListN.{length}
use Rattle.wire.specs.Bytes.{IsBytes, int}
use Rattle.sedna.specs.declared.Shape.{Shape}
use Rattle.sedna.specs.declared.Shape.TheVariants as shape
use Rattle.sedna.specs.Message.{Body, shape_of}
use Rattle.sedna.specs.Allowed.{allowed, version_allowed, format_allowed, class_allowed, type_allowed}
use Rattle.sedna.specs.Encode.{string, url_bytes, pairs_bytes, body_bytes}
use Rattle.wire.specs.Fields.{Got, go_on, ◌>>◌, give}
use Rattle.sedna_read.specs.Fields.{byte_field, int_field, string_field, nothing_left}
use Rattle.sedna_read.specs.Reading.{session_fields, text_fields, statement_fields, coded_fields, pairs_field, options_fields, item_fields, fields_of, body_field}
use Rattle.wire.proofs.Branches.{apart, both}
use Rattle.sedna_laws.proofs.Bytes.{bytes-behind}
use Rattle.sedna_laws.proofs.Steps.{past, passed, given}
use Rattle.sedna_laws.proofs.Fields.{byte_back, int_forth, int_back, string_forth, string_back}
use Rattle.sedna_laws.proofs.Pairs.{pairs-count, pairs_forth, pairs_back}
use Rattle.sedna_laws.proofs.Urls.{flagged_url, flagged, url_forth, url_back}

-- options go up to the body's end, so nothing can stand behind them; any other body ends by itself
abbrev pub Ends : Body → List ℕ → Type 0
Ends Body.empty rest = Unit {0}
Ends (Body.session major minor user database) rest = Unit {0}
Ends (Body.text t) rest = Unit {0}
Ends (Body.statement format t) rest = Unit {0}
Ends (Body.coded code t) rest = Unit {0}
Ends (Body.options pairs) rest = rest ≡ []
Ends (Body.item class kind url part) rest = Unit {0}

pub fields_forth : (b : Body) (rest : List ℕ) → Ends b rest → allowed b ≡ true → IsBytes (body_bytes b ++ rest) → fields_of (shape_of b) (body_bytes b ++ rest) ≡ Got.got b rest
unfolding allowed body_bytes session_fields text_fields statement_fields coded_fields options_fields item_fields
fields_forth Body.empty rest z ok h = refl
fields_forth (Body.session major minor user database) rest z ok h =
    let h' : IsBytes (string user ++ (string database ++ rest)) = rw append_assoc at (bytes-behind (major ∷ minor ∷ []) (string user ++ string database ++ rest) h) in
    rw (append_assoc, ok, string_forth user (string database ++ rest) h', string_forth database rest (bytes-behind (string user) (string database ++ rest) h'))
fields_forth (Body.text t) rest z ok h = rw (string_forth t rest h)
fields_forth (Body.statement format t) rest z ok h = rw (ok, string_forth t rest (bytes-behind (format ∷ []) (string t ++ rest) h))
fields_forth (Body.coded code t) rest z ok h =
    let h' : IsBytes (int code ++ (string t ++ rest)) = rw append_assoc at h in
    rw (append_assoc, int_forth code (string t ++ rest) h', string_forth t rest (bytes-behind (int code) (string t ++ rest) h'))
fields_forth (Body.options pairs) rest z ok h =
    let h' : IsBytes (pairs_bytes pairs) = rw (z, append-nil (pairs_bytes pairs)) at h in
    rw (z, append-nil (pairs_bytes pairs), pairs_forth pairs (length (pairs_bytes pairs)) (pairs-count pairs) h')
fields_forth (Body.item class kind url part) rest z ok h =
    let oks = (both (class_allowed class) (type_allowed kind)).0 ok in
    let h' : IsBytes (url_bytes url ++ (string part ++ rest)) = rw append_assoc at (bytes-behind (class ∷ kind ∷ []) (url_bytes url ++ string part ++ rest) h) in
    rw (append_assoc, oks.0, oks.1)
    (flagged (url_bytes url ++ (string part ++ rest)) _
    ∙ rw (url_forth url (string part ++ rest) h', string_forth part rest (bytes-behind (url_bytes url) (string part ++ rest) h')))

ends-nothing : (b : Body) → Ends b []
ends-nothing Body.empty = tt
ends-nothing (Body.session major minor user database) = tt
ends-nothing (Body.text t) = tt
ends-nothing (Body.statement format t) = tt
ends-nothing (Body.coded code t) = tt
ends-nothing (Body.options pairs) = refl
ends-nothing (Body.item class kind url part) = tt

-- b was read off s as a body of that shape, and rest is left
pub record Read (shape : Shape) (s : List ℕ) (b : Body) (rest : List ℕ) : Type 0 where
  pub split : s ≡ body_bytes b ++ rest
  pub shaped : shape_of b ≡ shape
  pub values : allowed b ≡ true

pub fields_back : (shape : Shape) (s : List ℕ) (b : Body) (rest : List ℕ) → IsBytes s → fields_of shape s ≡ Got.got b rest → Read shape s b rest
unfolding allowed body_bytes session_fields text_fields statement_fields coded_fields options_fields item_fields
fields_back shape.Empty s b rest h e = given (Read shape.Empty s) e (record { split = refl; shaped = refl; values = refl })
fields_back shape.Session s b rest h e =
    past byte_field (λ x. x ∷ []) byte_back s _ h e λ major s₁ p₁ h₁ e₁.
    past byte_field (λ x. x ∷ []) byte_back s₁ _ h₁ e₁ λ minor s₂ p₂ h₂ e₂.
    passed (version_allowed major minor) _ s₂ _ e₂ λ ok e₃.
    past string_field string string_back s₂ _ h₂ e₃ λ user s₃ p₃ h₃ e₄.
    past string_field string string_back s₃ _ h₃ e₄ λ database s₄ p₄ h₄ e₅.
    given (Read shape.Session s) e₅ (record { split = rw (append_assoc, p₁, p₂, p₃, p₄); shaped = refl; values = ok })
fields_back shape.Text s b rest h e =
    past string_field string string_back s _ h e λ t s₁ p₁ h₁ e₁.
    given (Read shape.Text s) e₁ (record { split = p₁; shaped = refl; values = refl })
fields_back shape.Statement s b rest h e =
    past byte_field (λ x. x ∷ []) byte_back s _ h e λ format s₁ p₁ h₁ e₁.
    passed (format_allowed format) _ s₁ _ e₁ λ ok e₂.
    past string_field string string_back s₁ _ h₁ e₂ λ t s₂ p₂ h₂ e₃.
    given (Read shape.Statement s) e₃ (record { split = rw (p₁, p₂); shaped = refl; values = ok })
fields_back shape.Coded s b rest h e =
    past int_field int int_back s _ h e λ code s₁ p₁ h₁ e₁.
    past string_field string string_back s₁ _ h₁ e₁ λ t s₂ p₂ h₂ e₂.
    given (Read shape.Coded s) e₂ (record { split = rw (append_assoc, p₁, p₂); shaped = refl; values = refl })
fields_back shape.Options s b rest h e =
    past (pairs_field (length s)) pairs_bytes (pairs_back (length s)) s _ h e λ pairs s₁ p₁ h₁ e₁.
    given (Read shape.Options s) e₁ (record { split = p₁; shaped = refl; values = refl })
fields_back shape.Item s b rest h e =
    past byte_field (λ x. x ∷ []) byte_back s _ h e λ class s₁ p₁ h₁ e₁.
    passed (class_allowed class) _ s₁ _ e₁ λ ok e₂.
    past byte_field (λ x. x ∷ []) byte_back s₁ _ h₁ e₂ λ kind s₂ p₂ h₂ e₃.
    passed (type_allowed kind) _ s₂ _ e₃ λ ok' e₄.
    past flagged_url url_bytes url_back s₂ _ h₂ (sym (flagged s₂ _) ∙ e₄) λ url s₃ p₃ h₃ e₅.
    past string_field string string_back s₃ _ h₃ e₅ λ part s₄ p₄ h₄ e₆.
    given (Read shape.Item s) e₆ (record { split = rw (append_assoc, p₁, p₂, p₃, p₄); shaped = refl; values = (both (class_allowed class) (type_allowed kind)).1 (ok, ok') })

-- a body's bytes are read as the body, and nothing is left
pub body_forth : (b : Body) → allowed b ≡ true → IsBytes (body_bytes b) → body_field (shape_of b) (body_bytes b) ≡ Got.got b []
unfolding body_field
body_forth b ok h = rw (whole-body)
  where
    whole-body : fields_of (shape_of b) (body_bytes b) ≡ Got.got b []
    whole-body = rw (append-nil (body_bytes b)) at (fields_forth b [] (ends-nothing b) ok (rw (append-nil (body_bytes b)) h))

-- whatever is read as a body is its bytes, all of them
pub body_back : (shape : Shape) (s : List ℕ) (b : Body) (rest : List ℕ) → IsBytes s → body_field shape s ≡ Got.got b rest → Read shape s b []
unfolding body_field
body_back shape s b rest h = by (fields_of shape s) refl
  where
    by : (g : Got Body) → fields_of shape s ≡ g → go_on g (λ a. ◌>>◌ nothing_left (give a)) ≡ Got.got b rest → Read shape s b []
    by (Got.refused r) q e = apart (cc)
    by (Got.got a []) q e = fields_back shape s b [] h (q ∙ cc)
    by (Got.got a (x ∷ l)) q e = apart (cc)
