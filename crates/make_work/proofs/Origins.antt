-- An origin is added by one search: no other payload has its name.
use Rattle.std.proofs.Common.{◌≡◌, ℕ, Bool, true, false, not, ◌&&◌, ◌||◌, cond, List, [], ◌∷◌}
use Rattle.std.proofs.Common.{Some, None, Ok, Err, arith, option_map, refl, ap, ◌∙◌}
use Rattle.std.proofs.lemmas.Bool.Decides.{nat_tests}
use Rattle.std.specs.BTreeSet.{replace_key}
use Rattle.std.specs.Ordering.{is_eq}
use Rattle.rtr_payload.specs.Meanings.{origin_of}
use Rattle.rtr_payload.specs.Orders.{payload_cmp}
use Rattle.rtr_payload.specs.Payloads.{Payload, origin, key, aspa}
use Rattle.rtr_payload.specs.declared.payload.RouteOrigin.{RouteOrigin}
use Rattle.data_memory.specs.Contents.{Leaves, announcing, unfit}
use Rattle.data_memory.specs.Data.{has, has_name, name_cmp, takes_place}
use Rattle.data_memory.specs.declared.change_error.ChangeError.{ChangeError}
use Rattle.data_memory.specs.declared.change_error.ChangeError.TheVariants.{Duplicate}
use Rattle.make_work.specs.Gathering.{is_lacking, refusal_after}
use Rattle.make_work.specs.PrivateAdding.{with_payload}
use Rattle.make_work.specs.declared.item.Reason.TheVariants.{Version, OtherProviders, Change}

same_test : (o : RouteOrigin) (q : Payload) →
    is_eq (name_cmp (origin_of o) q) ≡ is_eq (payload_cmp (origin_of o) q)
unfolding name_cmp
same_test o (origin p) = refl
same_test o (key k) = refl
same_test o (aspa a) = refl

-- an origin is there where its name is
same_there : (o : RouteOrigin) (d : List Payload) →
    has_name d (origin_of o) ≡ has d (origin_of o)
same_there o [] = refl
same_there o (q ∷ d) =
    ap (λ b. b || has_name d (origin_of o)) (same_test o q)
    ∙ ap (λ b. is_eq (payload_cmp (origin_of o) q) || b) (same_there o d)

none_at : (v : ℕ) (p : Payload) (a b c : Bool) → a ≡ false → c ≡ b → unfit p ≡ None →
    cond a (Some (Version v)) (cond b None (cond c (Some OtherProviders)
    (option_map Change (unfit p)))) ≡ None
none_at v p true b c e f u = absurd cc
none_at v p false true c e f u = refl
none_at v p false false true e f u = absurd cc
none_at v p false false false e f u = ap (option_map Change) u

neither : (a b : Bool) → b ≡ false → (not a && b) ≡ false
neither true b e = refl
neither false b e = e

-- no version refuses an origin
pub none_refused : (v : ℕ) (leaves_out : Bool) (o : RouteOrigin) (d : List Payload) →
    refusal_after v leaves_out d (origin_of o) ≡ None
none_refused v leaves_out o d =
    none_at v (origin_of o) (not leaves_out && is_lacking v (origin_of o)) (has d (origin_of o))
    (has_name d (origin_of o)) (neither leaves_out _ (grind (arith, nat_tests)))
    (same_there o d) refl

added_at : (d x e : List Payload) (b : Bool) →
    cond (b && true) (Err Duplicate) (Ok x) ≡ Ok e → e ≡ cond b d x
added_at d x e true h = absurd cc
added_at d x e false h = cc

again_at : (d x : List Payload) (b : Bool) →
    cond (b && true) (Err Duplicate) (Ok x) ≡ Err Duplicate → d ≡ cond b d x
again_at d x true h = refl
again_at d x false h = absurd cc

-- an origin that was announced
pub added : (o : RouteOrigin) (d e : List Payload) → announcing (origin_of o) d ≡ Ok e →
    e ≡ with_payload (origin_of o) d
unfolding takes_place
added o d e h =
    added_at d (replace_key name_cmp d (origin_of o)) e (has_name d (origin_of o)) h
    ∙ ap (λ b. cond b d (replace_key name_cmp d (origin_of o))) (same_there o d)

-- one that was there
pub added_again : (o : RouteOrigin) (d e : List Payload) (x : ChangeError) → x ≡ Duplicate →
    Leaves {T = Unit {0}} (Err x) (announcing (origin_of o) d) d e →
    e ≡ with_payload (origin_of o) d
unfolding takes_place
added_again o d e Duplicate i (h, k) =
    k ∙ again_at d (replace_key name_cmp d (origin_of o)) (has_name d (origin_of o)) h
    ∙ ap (λ b. cond b d (replace_key name_cmp d (origin_of o))) (same_there o d)
added_again o d e other i h = absurd cc
