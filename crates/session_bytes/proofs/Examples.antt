-- A run of a router in bytes that the prover computes, so that the premises of
-- `only_whole_answers_in_bytes` are seen to be met: a connection, a reset query, a cache response,
-- a prefix and an end of data; and its caller makes them by what `apply_in_order` promises.
use native.Mathlib.Omega.{arith}
use Rattle.std.proofs.Common.{◌≡◌, ◌⊎◌, ℕ, ◌≤◌, ◌<◌, Bool, true, false, if◌then◌else◌, ◌==◌, ◌&&◌}
use Rattle.std.proofs.Common.{Option, Some, None, List, [], ◌∷◌, ◌++◌, Ok, refl, sym, ap}
use Rattle.std.proofs.Common.{◌∙◌, subst, inl, inr, cond, ltb, lit<, lit≤}
use Rattle.std.proofs.lemmas.Bool.{ltb-true}
use Rattle.std.proofs.lemmas.Bool.Decides.{eqb_tells}
use Rattle.std.specs.Prelude.{unwrap_or}
use Rattle.std.specs.List.{concat}
use Rattle.rtr_base.specs.Addresses.{v4}
use Rattle.rtr_base.specs.Bytes.{IsBytes}
use Rattle.rtr_base.proofs.Numbers.{IsBytes-cons}
use Rattle.rtr_units.specs.End.{EndMeaning, IsEnd, end_list}
use Rattle.rtr_units.specs.Queries.{bare_list}
use Rattle.rtr_payload.specs.Payloads.{Payload, origin}
use Rattle.rtr_payload.specs.UnitFields.{Fields, HasFields, meaning, prefix_unit, unit_list}
use Rattle.rtr_payload.specs.Units.{IsUnit}
use Rattle.rtr_payload.proofs.ByFields.{fields_unit}
use Rattle.unit_any.specs.AnyFields.{cache_response, end_of_data, payload}
use Rattle.unit_any.proofs.Units.{end_has, payload_has}
use Rattle.data_memory.specs.Data.{announcement}
use Rattle.data_slices.specs.InOrder.{AppliesInOrder}
use Rattle.data_slices.specs.Order.{Sends}
use Rattle.data_slices.proofs.AnyVersions.{alone}
use Rattle.session_router.specs.declared.event.Action.TheVariants as actions
use Rattle.session_router.specs.declared.event.Event.TheVariants as events
use Rattle.session_router.specs.Histories.{Caller, Host, IsHistory, IsNew, Moment, at, empty_host}
use Rattle.session_router.specs.Histories.IsHistory.{run_begins, run_goes_on}
use Rattle.session_router.specs.Rules.{query}
use Rattle.session_cache.proofs.ExampleCalm.{adopts_so, asks_so, begins_so, completes_so}
use Rattle.session_cache.proofs.ExampleCalm.{connects_so}
use Rattle.session_cache.proofs.ExampleCalm.{keeps_so}
use Rattle.session_cache.proofs.ExampleWorlds.{applying, asked, connecting, end_head, keeping}
use Rattle.session_cache.proofs.ExampleWorlds.{payload_head, reading, response_head, router₀}
use Rattle.session_cache.proofs.ExampleWorlds.{settings}
use Rattle.session_cache.proofs.ExampleWorlds.{waiting}
use Rattle.session_bytes.specs.Heads.{HasHead}
use Rattle.session_bytes.specs.ShownData.{AppliesAnswers, AreHeard, ShowsAnswer, WritesAnswer}
use Rattle.session_bytes.proofs.Whole.{only_whole}

-- ---- the bytes

all_bytes : List ℕ → Bool
all_bytes [] = true
all_bytes (x ∷ b) = cond (ltb x 256) (all_bytes b) false

are_bytes : (b : List ℕ) → all_bytes b ≡ true → IsBytes b
unfolding all_bytes
are_bytes [] e = λ i. omega arith
are_bytes (x ∷ b) e =
    let t = both (ltb x 256) (all_bytes b) e in
    IsBytes-cons x b (ltb-true x 256 t.0) (are_bytes b t.1)
  where
    both : (c d : Bool) → cond c d false ≡ true → (c ≡ true) × (d ≡ true)
    both true d e = (refl, e)
    both false d e = absurd cc

abbrev pub fields : Fields
fields = prefix_unit (record {
  version = 2;
  session = 0;
  flags = 1;
  free = 0;
  origin = record {
    family = v4;
    address = 0xc0000200;
    prefix_len = 24;
    max_len = 24;
    asn = 65551;
  };
})

abbrev pub prefix : Payload
prefix = origin (record {
  family = v4;
  address = 0xc0000200;
  prefix_len = 24;
  max_len = 24;
  asn = 65551;
})

abbrev pub end : EndMeaning
end = record {
  version = 2;
  session = 7;
  serial = 5;
  timing = Some (record { refresh = 3600; retry = 600; expire = 7200 });
}

abbrev pub response_bytes : List ℕ
response_bytes = bare_list 2 3 7

abbrev pub prefix_bytes : List ℕ
prefix_bytes = unit_list fields

abbrev pub end_bytes : List ℕ
end_bytes = end_list end

-- what is made of them
abbrev pub data_bytes : List ℕ
data_bytes = prefix_bytes ++ end_bytes

has_fields : HasFields prefix_bytes fields
unfolding all_bytes
has_fields = record {
  fits = (lit< tt, lit< tt, lit< tt);
  limits = tt;
  bytes = refl;
  are_bytes = are_bytes prefix_bytes refl;
}

pub is_prefix : IsUnit prefix_bytes (meaning fields)
is_prefix = fields_unit prefix_bytes fields has_fields (lit≤ tt, lit≤ tt)

pub is_end : IsEnd end_bytes end
is_end = record {
  fits = record {
    session = lit< tt;
    serial = lit< tt;
    timing = (inr refl, lit< tt, lit< tt, lit< tt);
  };
  bytes = refl;
}

pub response_has : HasHead response_bytes response_head
unfolding all_bytes
response_has = record {
  fields = cache_response 2 7;
  has = record { fits = lit< tt; bytes = refl; are_bytes = are_bytes response_bytes refl };
  in_order = tt;
  head = refl;
}

pub prefix_has : HasHead prefix_bytes payload_head
prefix_has = record {
  fields = payload fields;
  has = payload_has prefix_bytes fields has_fields;
  in_order = (lit≤ tt, lit≤ tt);
  head = refl;
}

pub end_has_head : HasHead end_bytes end_head
end_has_head = record {
  fields = end_of_data end;
  has = end_has end_bytes end is_end;
  in_order = tt;
  head = refl;
}

-- ---- the caller makes data of this answer alone, and refuses any other

abbrev same : List ℕ → List ℕ → Bool
same [] [] = true
same (x ∷ xs) (y ∷ ys) = (x == y) && same xs ys
same _ _ = false

same_is : (xs ys : List ℕ) → same xs ys ≡ true → xs ≡ ys
same_is [] [] e = refl
same_is [] (y ∷ ys) e = absurd cc
same_is (x ∷ xs) [] e = absurd cc
same_is (x ∷ xs) (y ∷ ys) e = go (same_is xs ys) (eqb_tells x y)
  where
    go : (same xs ys ≡ true → xs ≡ ys)
        → (((x == y) ≡ true) × (x ≡ y)) ⊎ (((x == y) ≡ false) × (x ≡ y → ⊥))
        → x ∷ xs ≡ y ∷ ys
    go rest (inl d) =
        let more : xs ≡ ys = rest (sym (λ i. (d.0 i) && same xs ys) ∙ e) in
        (λ i. d.1 i ∷ more i)
    go rest (inr d) =
        let never : false ≡ true = sym (λ i. (d.0 i) && same xs ys) ∙ e in
        absurd cc

abbrev makes : Option (List ℕ) → List (List ℕ) → List ℕ → Option (List ℕ)
makes None units last =
    if same (concat units) prefix_bytes && same last end_bytes then Some data_bytes else None
makes (Some old) units last = None

abbrev pub caller : Caller (List ℕ) (List ℕ)
caller = record { settings = settings; make = makes }

-- as `apply_in_order` makes them
pub sends : Sends data_bytes (announcement prefix ∷ []) end
sends = record {
  bytes = data_bytes;
  accepts = record {
    rest = [];
    parts = refl;
    sequence = record {
      front = prefix_bytes;
      last = end_bytes;
      parts = refl;
      units = (prefix_bytes, [], refl, is_prefix, refl);
      end = is_end;
    };
  };
}

pub in_order : AppliesInOrder (Ok 44) end_bytes data_bytes 1 data_bytes data_bytes
in_order = (
  [],
  end,
  announcement prefix ∷ [],
  end,
  alone end_bytes end is_end,
  sends,
  (refl, refl, (lit≤ tt, (prefix ∷ [], refl, (refl, lit≤ tt, refl)))),
)

pub applies : AppliesAnswers caller
applies (Some old) units last new e = absurd cc
applies None units last new e =
    go (same (concat units) prefix_bytes) (same last end_bytes) refl refl
  where
    go : (a b : Bool) → same (concat units) prefix_bytes ≡ a → same last end_bytes ≡ b
        → WritesAnswer None units last new
    go true true p q =
        let made : Some data_bytes ≡ Some new =
        sym (λ i. if (p i) && (q i) then Some data_bytes else None) ∙ e in
        record {
          size = 44;
          places = 1;
          before = data_bytes;
          after = data_bytes;
          applies = subst
              (λ l. AppliesInOrder (Ok 44) l (concat units ++ l) 1 data_bytes data_bytes)
              (sym (same_is last end_bytes q))
              (subst
              (λ c. AppliesInOrder (Ok 44) end_bytes (c ++ end_bytes) 1 data_bytes data_bytes)
              (sym (same_is (concat units) prefix_bytes p)) in_order);
          new_is = sym (ap (λ (o : Option (List ℕ)). unwrap_or o []) made);
        }
    go true false p q =
        let never : None ≡ Some new =
        sym (λ i. if (p i) && (q i) then Some data_bytes else None) ∙ e in
        absurd cc
    go false b p q =
        let never : None ≡ Some new =
        sym (λ i. if (p i) && same last end_bytes then Some data_bytes else None) ∙ e in
        absurd cc

-- ---- the run

abbrev pub kept_host : Host (List ℕ) (List ℕ)
kept_host = record { kept = prefix_bytes ∷ []; made = None; shown = None }

abbrev pub made_host : Host (List ℕ) (List ℕ)
made_host = record { kept = prefix_bytes ∷ []; made = Some data_bytes; shown = None }

abbrev pub shown_host : Host (List ℕ) (List ℕ)
shown_host =
    record { kept = prefix_bytes ∷ []; made = Some data_bytes; shown = Some data_bytes }

abbrev until_asked : List (Moment (List ℕ))
until_asked =
    at 10 events.Connected [] (actions.Ask (query asked))
    ∷ at 0 events.Tick [] actions.Connect ∷ []

abbrev until_read : List (Moment (List ℕ))
until_read =
    at 31 (events.Came payload_head) prefix_bytes actions.Keep
    ∷ at 30 (events.Came response_head) response_bytes actions.Begin ∷ until_asked

abbrev history : List (Moment (List ℕ))
history =
    at 33 events.Applied [] actions.Show
    ∷ at 32 (events.Came end_head) end_bytes (actions.Apply false) ∷ until_read

is_new : IsNew settings router₀
is_new = record {
  settings = refl;
  phase = refl;
  has_data = refl;
  due = refl;
  asked = refl;
  rises = refl;
  fell = refl;
}

asks_then : IsHistory caller until_asked asked empty_host
asks_then = run_goes_on 10 [] events.Connected (actions.Ask (query asked)) asked
    (at 0 events.Tick [] actions.Connect ∷ []) connecting empty_host
    (run_goes_on 0 [] events.Tick actions.Connect connecting [] router₀ empty_host
    (run_begins router₀ is_new) tt connects_so)
    refl asks_so

keeps_then : IsHistory caller until_read keeping kept_host
keeps_then = run_goes_on 31 prefix_bytes (events.Came payload_head) actions.Keep keeping
    (at 30 (events.Came response_head) response_bytes actions.Begin ∷ until_asked) reading
    empty_host
    (run_goes_on 30 response_bytes (events.Came response_head) actions.Begin reading until_asked
    asked empty_host asks_then tt begins_so)
    tt keeps_so

run : IsHistory caller history waiting shown_host
run = run_goes_on 33 [] events.Applied actions.Show waiting
    (at 32 (events.Came end_head) end_bytes (actions.Apply false) ∷ until_read) applying made_host
    (run_goes_on 32 end_bytes (events.Came end_head) (actions.Apply false) applying until_read
    keeping kept_host keeps_then tt completes_so)
    (data_bytes, refl) adopts_so

heard : AreHeard history
heard = (tt, (end_has_head, (prefix_has, (response_has, (tt, (tt, tt))))))

-- `only_whole_answers_in_bytes`
shows_so : (shown_host.shown ≡ None)
    ⊎ ((shown : List ℕ) × (shown_host.shown ≡ Some shown)
    × ShowsAnswer settings history waiting.known shown)
shows_so = only_whole caller history waiting shown_host run heard applies
