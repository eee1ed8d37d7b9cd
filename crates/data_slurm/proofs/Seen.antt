-- Objects and arrays, as values that were matched.
use Rattle.std.proofs.Common.{◌≡◌, List, ap, sym, ◌∙◌, Vec, ℕ}
use Rattle.std.specs.Borrow.{Bor}
use Rattle.json.specs.Json.{array, object}
use Rattle.json.specs.Value.{items_view, members_view, value_view}
use Rattle.json.proofs.Trees.{view-Array, view-Object}
use Rattle.json.specs.declared.value.Value.{Array, Object, Value}

module _ {A : Type 0} where
  pub object_seen : (j : Value A) (v : Vec (Bor (List ℕ) × Value A) A)
      (ms : List (Bor (List ℕ) × Value A)) → j ≡ Object v → ms ≡ v.items →
      value_view j ≡ object (members_view ms)
  object_seen j v ms e f =
      ap value_view e ∙ view-Object v ∙ ap (λ l. object (members_view l)) (sym f)

  pub array_seen : (j : Value A) (v : Vec (Value A) A) (vs : List (Value A)) → j ≡ Array v →
      vs ≡ v.items → value_view j ≡ array (items_view vs)
  array_seen j v vs e f = ap value_view e ∙ view-Array v ∙ ap (λ l. array (items_view l)) (sym f)
