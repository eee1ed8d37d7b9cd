-- The payloads of one kind, and how many there are.
use Rattle.std.proofs.Common.{◌≡◌, ℕ, Bool, true, false, cond, List, [], ◌∷◌, ◌++◌, map, length}
use Rattle.std.proofs.Common.{refl, sym, ap, ◌∙◌}
use Rattle.std.proofs.lemmas.List.{append-nil, length-map}
use Rattle.std.proofs.lemmas.List.Elements.{filter-append}
use Rattle.std.proofs.lemmas.List.Folds.{flat_map-map}
use Rattle.std.specs.List.{filter, flat_map}
use Rattle.rtr_payload.specs.Meanings.{key_of, origin_of}
use Rattle.rtr_payload.specs.Payloads.{Payload}
use Rattle.rtr_payload.specs.declared.payload.RouteOrigin.{RouteOrigin}
use Rattle.rtr_payload.specs.declared.payload.RouterKey.{RouterKey}
use Rattle.data_memory.specs.Contents.{entry_of, joined}
use Rattle.list_tables.specs.Tables.{is_aspa, is_key, is_origin}

kept : {T : Type 0} (test : Payload → Bool) (see : T → Payload) →
    ((t : T) → test (see t) ≡ true) → (ts : List T) → filter test (map see ts) ≡ map see ts
kept test see holds [] = refl
kept test see holds (t ∷ ts) =
    ap (λ (b : Bool). cond b (see t ∷ filter test (map see ts)) (filter test (map see ts)))
    (holds t)
    ∙ ap (λ (l : List Payload). see t ∷ l) (kept test see holds ts)

gone : {T : Type 0} (test : Payload → Bool) (see : T → Payload) →
    ((t : T) → test (see t) ≡ false) → (ts : List T) → filter test (map see ts) ≡ []
gone test see fails [] = refl
gone test see fails (t ∷ ts) =
    ap (λ (b : Bool). cond b (see t ∷ filter test (map see ts)) (filter test (map see ts)))
    (fails t)
    ∙ gone test see fails ts

module _ (os : List RouteOrigin) (ks : List RouterKey) (es : List (ℕ × List ℕ))
    (d : List Payload) (is : d ≡ joined os ks es) where
  by_kinds : (test : Payload → Bool) → filter test d ≡ filter test (map origin_of os)
      ++ (filter test (map key_of ks) ++ filter test (map entry_of es))
  by_kinds test =
      ap (filter test) is
      ∙ filter-append test (map origin_of os) (map key_of ks ++ map entry_of es)
      ∙ ap (λ (l : List Payload). filter test (map origin_of os) ++ l)
      (filter-append test (map key_of ks) (map entry_of es))

  pub origins_are : filter is_origin d ≡ map origin_of os
  origins_are =
      by_kinds is_origin
      ∙ ap (λ (l : List Payload). l ++ (filter is_origin (map key_of ks)
      ++ filter is_origin (map entry_of es))) (kept is_origin origin_of (λ o. refl) os)
      ∙ ap (λ (l : List Payload). map origin_of os ++ (l ++ filter is_origin (map entry_of es)))
      (gone is_origin key_of (λ k. refl) ks)
      ∙ ap (λ (l : List Payload). map origin_of os ++ l)
      (gone is_origin entry_of (λ e. refl) es)
      ∙ append-nil (map origin_of os)

  pub keys_are : filter is_key d ≡ map key_of ks
  keys_are =
      by_kinds is_key
      ∙ ap (λ (l : List Payload). l ++ (filter is_key (map key_of ks)
      ++ filter is_key (map entry_of es))) (gone is_key origin_of (λ o. refl) os)
      ∙ ap (λ (l : List Payload). l ++ filter is_key (map entry_of es))
      (kept is_key key_of (λ k. refl) ks)
      ∙ ap (λ (l : List Payload). map key_of ks ++ l) (gone is_key entry_of (λ e. refl) es)
      ∙ append-nil (map key_of ks)

  pub aspas_are : filter is_aspa d ≡ map entry_of es
  aspas_are =
      by_kinds is_aspa
      ∙ ap (λ (l : List Payload). l ++ (filter is_aspa (map key_of ks)
      ++ filter is_aspa (map entry_of es))) (gone is_aspa origin_of (λ o. refl) os)
      ∙ ap (λ (l : List Payload). l ++ filter is_aspa (map entry_of es))
      (gone is_aspa key_of (λ k. refl) ks)
      ∙ kept is_aspa entry_of (λ e. refl) es

  pub keys_counted : length ks ≡ length (filter is_key d)
  keys_counted =
      sym (length-map ks key_of) ∙ ap (λ (l : List Payload). length l) (sym keys_are)

  pub aspas_counted : length es ≡ length (filter is_aspa d)
  aspas_counted =
      sym (length-map es entry_of) ∙ ap (λ (l : List Payload). length l) (sym aspas_are)

-- what is made of a list by kind is made of the payloads of that kind
pub items_are : {T : Type 0} (item : Payload → List ℕ) (see : T → Payload) (ts : List T)
    (ps : List Payload) → ps ≡ map see ts → flat_map (λ t. item (see t)) ts ≡ flat_map item ps
items_are item see ts ps is = sym (flat_map-map item see ts) ∙ sym (ap (flat_map item) is)
