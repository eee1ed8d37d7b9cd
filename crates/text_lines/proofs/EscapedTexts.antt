-- Texts with escapes for control characters.
use Rattle.std.proofs.Common.{◌≡◌, ℕ, ◌<◌, ◌==◌, Bool, true, false, List, [], ◌∷◌}
use Rattle.std.proofs.Common.{◌++◌, refl, sym, ap, ◌∙◌, arith, append_assoc, append-nil}
use Rattle.std.proofs.lemmas.Bool.Decides.{nat_tests}
use Rattle.text_lines.specs.ControlEscapes.{escaped, byte_form, is_control_pair, unicode_escape}
use Rattle.text_lines.proofs.PlainTexts.{IsPlain, plain_head, plain_tail}

-- one of U+0080 to U+009F at the front
pub control_first : (b next : ℕ) (rest : List ℕ) → true ≡ is_control_pair b next →
    escaped (b ∷ next ∷ rest) ≡ unicode_escape next ++ escaped rest
unfolding escaped
control_first b next rest e = rw (sym e) refl

-- another byte before one more
pub byte_first : (b next : ℕ) (rest : List ℕ) → false ≡ is_control_pair b next →
    escaped (b ∷ next ∷ rest) ≡ byte_form b ++ escaped (next ∷ rest)
unfolding escaped
byte_first b next rest e = rw (sym e) refl

pub byte_last : (b : ℕ) → escaped (b ∷ []) ≡ byte_form b
unfolding escaped
byte_last b = refl

pub none_escaped : escaped [] ≡ []
unfolding escaped
none_escaped = refl

below_form : (b : ℕ) → b < 127 → byte_form b ≡ b ∷ []
below_form b h = let e : (b == 127) ≡ false = grind (arith, nat_tests) in rw e refl

below_pair : (b next : ℕ) → b < 127 → is_control_pair b next ≡ false
below_pair b next h = let e : (b == 194) ≡ false = grind (arith, nat_tests) in rw e refl

no_pair : (b next : ℕ) → next < 128 → is_control_pair b next ≡ false
no_pair b next h = grind (arith, nat_tests)

-- a byte that no character needs
plain_first : (b : ℕ) (rest : List ℕ) → b < 127 → escaped (b ∷ rest) ≡ b ∷ escaped rest
plain_first b [] h = byte_last b ∙ below_form b h ∙ ap (λ l. b ∷ l) (sym none_escaped)
plain_first b (next ∷ rest) h =
    byte_first b next rest (sym (below_pair b next h))
    ∙ ap (λ l. l ++ escaped (next ∷ rest)) (below_form b h)

-- a text of bytes below 127 stays at the front of another
pub plain_front : (x y : List ℕ) → IsPlain x → escaped (x ++ y) ≡ x ++ escaped y
plain_front [] y all = refl
plain_front (b ∷ x) y all =
    plain_first b (x ++ y) (plain_head b x all)
    ∙ ap (λ l. b ∷ l) (plain_front x y (plain_tail b x all))

-- and stays alone
pub plain_stays : (x : List ℕ) → IsPlain x → escaped x ≡ x
plain_stays x all =
    ap escaped (sym (append-nil x)) ∙ plain_front x [] all
    ∙ ap (λ l. x ++ l) none_escaped ∙ append-nil x

-- a byte before a byte below 128
pub before_plain : (b next : ℕ) (rest : List ℕ) → next < 128 →
    escaped (b ∷ next ∷ rest) ≡ byte_form b ++ escaped (next ∷ rest)
before_plain b next rest h = byte_first b next rest (sym (no_pair b next h))

step_text : (pair : Bool) (b next : ℕ) (x y : List ℕ) → pair ≡ is_control_pair b next →
    escaped (x ++ y) ≡ escaped x ++ escaped y →
    escaped (next ∷ (x ++ y)) ≡ escaped (next ∷ x) ++ escaped y →
    escaped (b ∷ next ∷ (x ++ y)) ≡ escaped (b ∷ next ∷ x) ++ escaped y
step_text true b next x y e two one =
    control_first b next (x ++ y) e ∙ ap (λ l. unicode_escape next ++ l) two
    ∙ sym (append_assoc (unicode_escape next) (escaped x) (escaped y))
    ∙ ap (λ l. l ++ escaped y) (sym (control_first b next x e))
step_text false b next x y e two one =
    byte_first b next (x ++ y) e ∙ ap (λ l. byte_form b ++ l) one
    ∙ sym (append_assoc (byte_form b) (escaped (next ∷ x)) (escaped y))
    ∙ ap (λ l. l ++ escaped y) (sym (byte_first b next x e))

-- a text before one that begins with a byte below 128
pub before_text : (x y : List ℕ) (c : ℕ) → c < 128 →
    escaped (x ++ (c ∷ y)) ≡ escaped x ++ escaped (c ∷ y)
before_text [] y c h = ap (λ l. l ++ escaped (c ∷ y)) (sym none_escaped)
before_text (b ∷ []) y c h =
    before_plain b c y h ∙ ap (λ l. l ++ escaped (c ∷ y)) (sym (byte_last b))
before_text (b ∷ next ∷ x) y c h =
    step_text (is_control_pair b next) b next x (c ∷ y) refl (before_text x y c h)
    (before_text (next ∷ x) y c h)
