-- What whole answers made in bytes, they made of payloads.
use Rattle.std.proofs.Common.{◌≡◌, ◌⊎◌, inl, inr, ℕ, List, [], ◌∷◌, ◌++◌, Option, Some, None, Ok}
use Rattle.std.proofs.Common.{refl, sym}
use Rattle.std.proofs.Common.{ap, subst, ◌∙◌, length, take, drop, map}
use Rattle.std.proofs.Math.Seq.{take-append_seam}
use Rattle.std.proofs.lemmas.List.{append-nil, map-append}
use Rattle.std.proofs.lemmas.List.Folds.{concat-append}
use Rattle.std.specs.List.{concat}
use Rattle.rtr_base.specs.declared.timing.Timing.{Timing}
use Rattle.rtr_units.specs.End.{EndMeaning, IsEnd}
use Rattle.rtr_payload.specs.Payloads.{Payload}
use Rattle.rtr_payload.specs.UnitFields.{Fields, HasFields, LengthsAgree, prefix_unit, key_unit}
use Rattle.rtr_payload.specs.UnitFields.{aspa_unit, meaning}
use Rattle.rtr_payload.specs.Units.{IsUnit}
use Rattle.rtr_payload.proofs.ByFields.{fields_unit}
use Rattle.rtr_wire.specs.Sequences.{AreUnits}
use Rattle.rtr_wire.proofs.Push.{units_push}
use Rattle.data_memory.specs.Changes.{after_all}
use Rattle.data_memory.specs.Data.{Change}
use Rattle.data_memory.specs.Deltas.{unit_of}
use Rattle.data_memory.specs.Sequences.{change_of}
use Rattle.data_slices.specs.Apply.{data_form}
use Rattle.data_slices.specs.Canonical.{HoldsData}
use Rattle.data_slices.specs.InOrder.{AppliesInOrder}
use Rattle.data_slices.specs.Order.{Sends}
use Rattle.data_slices.proofs.AsTheyCame.{holds_sent}
use Rattle.data_slices.proofs.OneData.{one_data}
use Rattle.data_slices.proofs.Ordering.{one_sequence}
use Rattle.unit_any.specs.AnyFields.{AnyFields, HasAnyFields, serial_notify, serial_query}
use Rattle.unit_any.specs.AnyFields.{reset_query, cache_response, payload, end_of_data}
use Rattle.unit_any.specs.AnyFields.{cache_reset, error_report}
use Rattle.data_slices.proofs.AnyVersions.{alone}
use Rattle.session_router.specs.declared.head.Head.{Head}
use Rattle.session_router.specs.declared.head.Kind.{Kind}
use Rattle.session_router.specs.declared.head.Kind.TheVariants as kinds
use Rattle.session_router.specs.declared.head.Known.{Known}
use Rattle.session_router.specs.declared.head.Query.{Query}
use Rattle.session_router.specs.declared.settings.Settings.{Settings}
use Rattle.session_router.specs.declared.router.Router.{Router}
use Rattle.session_router.specs.Histories.{Caller, HistoryHas, Host, IsAnswered, IsHistory, IsRead}
use Rattle.session_router.specs.Histories.{Made, Moment, WasAnswered}
use Rattle.session_router.specs.Histories.HistoryHas.{made_anew, made_of, still_had}
use Rattle.session_router.proofs.WholeAnswers.{whole_answers}
use Rattle.session_router.specs.Histories.IsRead.{was_begun, was_kept, still_read}
use Rattle.session_router.specs.Histories.WasAnswered.{was_ended, still_whole}
use Rattle.session_router.specs.Rules.{IsPayloadOf, known_of}
use Rattle.session_bytes.specs.Heads.{HasHead, IsInOrder, end_head, head_of, serial_head}
use Rattle.session_bytes.specs.Heads.{timed_head}
use Rattle.session_bytes.specs.ShownData.{AppliesAnswers, AreHeard, MakesPayloads}
use Rattle.session_bytes.specs.ShownData.{ShowsAnswer}

-- ---- heads

timed_kind : (t : Option Timing) (h : Head) → (timed_head t h).kind ≡ h.kind
timed_kind None h = refl
timed_kind (Some t) h = refl

timed_version : (t : Option Timing) (h : Head) → (timed_head t h).version ≡ h.version
timed_version None h = refl
timed_version (Some t) h = refl

-- the size of a unit names nothing
known_of_any : (v s q n m : ℕ) (t : Option Timing) →
    known_of (timed_head t (serial_head kinds.EndOfData v s q n))
    ≡ known_of (timed_head t (serial_head kinds.EndOfData v s q m))
known_of_any v s q n m None = refl
known_of_any v s q n m (Some t) = refl

-- ---- payload units

has_fields : (b : List ℕ) (f : Fields) → HasAnyFields b (payload f) → HasFields b f
has_fields b f has = record {
  fits = has.fits.0;
  limits = has.fits.1;
  bytes = has.bytes;
  are_bytes = has.are_bytes;
}

-- the unit makes a change, in its version
of_fields : (b : List ℕ) (v : ℕ) (f : Fields) → HasAnyFields b (payload f) → LengthsAgree f →
    (meaning f).version ≡ v → (c : Change) × IsUnit b (unit_of v c)
of_fields b v f has order version = (
  change_of (meaning f),
  subst (λ w. IsUnit b (unit_of w (change_of (meaning f)))) version
      (fields_unit b f (has_fields b f has) order),
)

pub unit_change : (b : List ℕ) (u : Head) (v : ℕ) → HasHead b u → IsPayloadOf v u.kind →
    u.version ≡ v → (c : Change) × IsUnit b (unit_of v c)
unit_change b u v x kind version = go x.fields x.has x.in_order x.head
  where
    none : (k : Kind) → u.kind ≡ k → IsPayloadOf v k
    none k e = subst (λ k. IsPayloadOf v k) e kind

    go : (f : AnyFields) → HasAnyFields b f → IsInOrder f → u ≡ head_of f (length b) →
        (c : Change) × IsUnit b (unit_of v c)
    go (payload (prefix_unit p)) has order is = of_fields b v (prefix_unit p) has order
        (sym (ap (λ (h : Head). h.version) is) ∙ version)
    go (payload (key_unit p)) has order is = of_fields b v (key_unit p) has order
        (sym (ap (λ (h : Head). h.version) is) ∙ version)
    go (payload (aspa_unit p)) has order is = of_fields b v (aspa_unit p) has order
        (sym (ap (λ (h : Head). h.version) is) ∙ version)
    go (end_of_data e) has order is = absurd (none kinds.EndOfData
        (ap (λ (h : Head). h.kind) is
        ∙ timed_kind e.timing
        (serial_head kinds.EndOfData e.version e.session e.serial (length b))))
    go (serial_notify w s q) has order is =
        absurd (none kinds.SerialNotify (ap (λ (h : Head). h.kind) is))
    go (serial_query w s q) has order is =
        absurd (none kinds.SerialQuery (ap (λ (h : Head). h.kind) is))
    go (reset_query w s) has order is =
        absurd (none kinds.ResetQuery (ap (λ (h : Head). h.kind) is))
    go (cache_response w s) has order is =
        absurd (none kinds.CacheResponse (ap (λ (h : Head). h.kind) is))
    go (cache_reset w s) has order is =
        absurd (none kinds.CacheReset (ap (λ (h : Head). h.kind) is))
    go (error_report w c body) has order is =
        absurd (none kinds.ErrorReport (ap (λ (h : Head). h.kind) is))

-- units of one version that make changes
record Changing (v : ℕ) (units : List (List ℕ)) : Type 0 where
  pub changes : List Change
  pub are_units : AreUnits (concat units) (map (unit_of v) changes)

one_more : (v : ℕ) (units : List (List ℕ)) (b : List ℕ) → Changing v units →
    (c : Change) × IsUnit b (unit_of v c) → Changing v (units ++ b ∷ [])
one_more v units b x (c, is) = record {
  changes = x.changes ++ c ∷ [];
  are_units =
      subst (λ l. AreUnits l (map (unit_of v) (x.changes ++ c ∷ [])))
      (sym (concat-append units (b ∷ []) ∙ ap (λ (l : List ℕ). concat units ++ l) (append-nil b)))
      (subst (λ ms. AreUnits (concat units ++ b) ms)
      (sym (map-append (unit_of v) x.changes (c ∷ [])))
      (units_push (concat units) b (map (unit_of v) x.changes) (unit_of v c) x.are_units is));
}

read_changes : (q : Query) (v s : ℕ) (ms : List (Moment (List ℕ))) (units : List (List ℕ)) →
    IsRead q v s ms units → AreHeard ms → Changing v units
read_changes q v s ms units (was_begun n b u ms₀ out kind version session) heard =
    record { changes = []; are_units = refl }
read_changes q v s ms units (was_kept n b u ms₀ bodies read kind version) heard =
    one_more v bodies b (read_changes q v s ms₀ bodies read heard.1)
    (unit_change b u v heard.0 kind version)
read_changes q v s ms units (still_read n b e ms₀ bodies still read) heard =
    read_changes q v s ms₀ bodies read heard.1

-- ---- a whole answer

pub record EndsAs (k : Known) (last : List ℕ) : Type 0 where
  pub end : EndMeaning
  pub is : IsEnd last end
  pub named : known_of (end_head end 0) ≡ k
  pub version : k.version ≡ end.version

pub end_named : (b : List ℕ) (u : Head) (k : Known) → HasHead b u → u.kind ≡ kinds.EndOfData →
    k ≡ known_of u → EndsAs k b
end_named b u k x kind names = go x.fields x.has x.head
  where
    kind_is : (f : Kind) → u.kind ≡ f → f ≡ kinds.EndOfData
    kind_is f e = sym e ∙ kind

    go : (f : AnyFields) → HasAnyFields b f → u ≡ head_of f (length b) → EndsAs k b
    go (end_of_data e) has is = record {
      end = e;
      is = record { fits = has.fits; bytes = has.bytes };
      named = known_of_any e.version e.session e.serial 0 (length b) e.timing
          ∙ sym (ap known_of is) ∙ sym names;
      version = ap (λ (k : Known). k.version) names ∙ ap (λ (h : Head). h.version) is
          ∙ timed_version e.timing
          (serial_head kinds.EndOfData e.version e.session e.serial (length b));
    }
    go (payload (prefix_unit p)) has is =
        let e = kind_is kinds.Prefix (ap (λ (h : Head). h.kind) is) in cc
    go (payload (key_unit p)) has is =
        let e = kind_is kinds.RouterKey (ap (λ (h : Head). h.kind) is) in cc
    go (payload (aspa_unit p)) has is =
        let e = kind_is kinds.Aspa (ap (λ (h : Head). h.kind) is) in cc
    go (serial_notify w s q) has is =
        let e = kind_is kinds.SerialNotify (ap (λ (h : Head). h.kind) is) in cc
    go (serial_query w s q) has is =
        let e = kind_is kinds.SerialQuery (ap (λ (h : Head). h.kind) is) in cc
    go (reset_query w s) has is =
        let e = kind_is kinds.ResetQuery (ap (λ (h : Head). h.kind) is) in cc
    go (cache_response w s) has is =
        let e = kind_is kinds.CacheResponse (ap (λ (h : Head). h.kind) is) in cc
    go (cache_reset w s) has is =
        let e = kind_is kinds.CacheReset (ap (λ (h : Head). h.kind) is) in cc
    go (error_report w c body) has is =
        let e = kind_is kinds.ErrorReport (ap (λ (h : Head). h.kind) is) in cc

record Whole (k : Known) (units : List (List ℕ)) (last : List ℕ) : Type 0 where
  pub of : Changing k.version units
  pub ends : EndsAs k last

whole : (q : Query) (k : Known) (since : ℕ) (ms : List (Moment (List ℕ)))
    (units : List (List ℕ)) (last : List ℕ) → WasAnswered q k since ms units last
    → AreHeard ms → Whole k units last
whole q k since ms units last (was_ended n b u ms₀ bodies read kind names came) heard = record {
  of = subst (λ v. Changing v units) (sym (ap (λ (k : Known). k.version) names))
      (read_changes q u.version u.session ms₀ bodies read heard.1);
  ends = end_named b u k heard.0 kind names;
}
whole q k since ms units last (still_whole n b e ms₀ bodies last₀ still was) heard =
    whole q k since ms₀ bodies last₀ was heard.1

sends : (k : Known) (units : List (List ℕ)) (last : List ℕ) (w : Whole k units last) →
    Sends (concat units ++ last) w.of.changes w.ends.end
sends k units last w = record {
  bytes = concat units ++ last;
  accepts = record {
    rest = [];
    parts = sym (append-nil (concat units ++ last));
    sequence = record {
      front = concat units;
      last = last;
      parts = refl;
      units = subst (λ v. AreUnits (concat units) (map (unit_of v) w.of.changes)) w.ends.version
          w.of.are_units;
      end = w.ends.is;
    };
  };
}

-- ---- what is written

pub record Written (d : List Payload) (cs : List Change) (e : EndMeaning) (new : List ℕ)
    : Type 0 where
  pub payloads : List Payload
  pub made : after_all cs (Ok d) ≡ Ok payloads
  pub holds : HoldsData new payloads e

pub front_is : (n : ℕ) (piece rest after : List ℕ) → n ≡ length piece → after ≡ piece ++ rest →
    take n after ≡ piece
front_is n piece rest after size is =
    (λ i. take (size i) (is i)) ∙ take-append_seam piece rest

pub written : (base input : List ℕ) (places size : ℕ) (before after : List ℕ) (d : List Payload)
    (cs : List Change) (e e' : EndMeaning) →
    AppliesInOrder (Ok size) base input places before after → HoldsData base d e →
    Sends input cs e' → Written d cs e' (take size after)
written base input places size before after d cs e e'
    (d₀, e₀, cs₀, e₁, h₀, s₀, (v, t, (few, (new, made, (long, within, is))))) h s =
    let a = one_data base d₀ d e₀ e h₀ h in
    let b = one_sequence input cs₀ cs e₁ e' s₀ s in
    let form = data_form new e₁ in
    record {
      payloads = new;
      made = subst (λ x. x) (λ i. after_all (b.0 i) (Ok (a.0 i)) ≡ Ok new) made;
      holds =
          subst (λ l. HoldsData l new e')
          (append-nil form ∙ sym (front_is size form (drop size before) after long is))
          (subst (λ x. HoldsData (form ++ []) new x) b.1
          (holds_sent base input [] d₀ new cs₀ e₀ e₁ h₀ s₀ v made));
    }

-- ---- histories

record Has (s : Settings) (ms : List (Moment (List ℕ))) (k : Known) (since : ℕ)
    (shown : List ℕ) : Type 0 where
  pub payloads : List Payload
  pub end : EndMeaning
  pub holds : HoldsData shown payloads end
  pub named : known_of (end_head end 0) ≡ k
  pub has : HistoryHas s MakesPayloads ms k since payloads

has_payloads : (c : Caller (List ℕ) (List ℕ)) → AppliesAnswers c →
    (ms : List (Moment (List ℕ))) (k : Known) (since : ℕ) (shown : List ℕ) → AreHeard ms →
    HistoryHas c.settings (Made c) ms k since shown → Has c.settings ms k since shown
has_payloads c applies ms k since shown heard
    (made_anew n b ms₀ q k₁ t bodies last d reset was makes soon) =
    let w = whole q k since ms₀ bodies last was heard.1 in
    let a = applies None bodies last shown makes in
    let x = written last (concat bodies ++ last) a.places a.size a.before a.after []
    w.of.changes w.ends.end w.ends.end a.applies (alone last w.ends.end w.ends.is)
    (sends k bodies last w) in
    record {
      payloads = x.payloads;
      end = w.ends.end;
      holds = subst (λ l. HoldsData l x.payloads w.ends.end) (sym a.new_is) x.holds;
      named = w.ends.named;
      has = made_anew n b ms₀ q k since bodies last x.payloads reset was (record {
        changes = w.of.changes;
        are_units = w.of.are_units;
        made = x.made;
      }) soon;
    }
has_payloads c applies ms k since shown heard
    (made_of n b ms₀ q k₁ t bodies last d k₀ n₀ d₀ before changes was makes soon) =
    let w = whole q k since ms₀ bodies last was heard.1 in
    let a = applies (Some d₀) bodies last shown makes in
    let old = has_payloads c applies ms₀ k₀ n₀ d₀ heard.1 before in
    let x = written d₀ (concat bodies ++ last) a.places a.size a.before a.after old.payloads
    w.of.changes old.end w.ends.end a.applies old.holds (sends k bodies last w) in
    record {
      payloads = x.payloads;
      end = w.ends.end;
      holds = subst (λ l. HoldsData l x.payloads w.ends.end) (sym a.new_is) x.holds;
      named = w.ends.named;
      has = made_of n b ms₀ q k since bodies last x.payloads k₀ n₀ old.payloads old.has changes was
          (record {
            changes = w.of.changes;
            are_units = w.of.are_units;
            made = x.made;
          })
          soon;
    }
has_payloads c applies ms k since shown heard
    (still_had n b e a ms₀ k₁ n₀ d₀ before leaves soon) =
    let x = has_payloads c applies ms₀ k since shown heard.1 before in
    record {
      payloads = x.payloads;
      end = x.end;
      holds = x.holds;
      named = x.named;
      has = still_had n b e a ms₀ k since x.payloads x.has leaves soon;
    }

pub shows_answer : (c : Caller (List ℕ) (List ℕ)) (ms : List (Moment (List ℕ))) (k : Known)
    (o : Option (List ℕ)) → AppliesAnswers c → AreHeard ms → IsAnswered c ms k o →
    (shown : List ℕ) × (o ≡ Some shown) × ShowsAnswer c.settings ms k shown
shows_answer c ms k o applies heard x =
    let y = has_payloads c applies ms k x.since x.value heard x.has in (
      x.value,
      x.shows,
      record {
        payloads = y.payloads;
        end = y.end;
        since = x.since;
        holds = y.holds;
        named = y.named;
        has = y.has;
      },
    )

pub only_whole : (c : Caller (List ℕ) (List ℕ)) (ms : List (Moment (List ℕ))) (r : Router)
    (h : Host (List ℕ) (List ℕ)) → IsHistory c ms r h → AreHeard ms → AppliesAnswers c →
    (h.shown ≡ None) ⊎ ((shown : List ℕ) × (h.shown ≡ Some shown)
    × ShowsAnswer c.settings ms r.known shown)
only_whole c ms r h run heard applies = go (whole_answers c ms r h run)
  where
    go : (h.shown ≡ None) ⊎ IsAnswered c ms r.known h.shown →
        (h.shown ≡ None) ⊎ ((shown : List ℕ) × (h.shown ≡ Some shown)
        × ShowsAnswer c.settings ms r.known shown)
    go (inl none) = inl none
    go (inr x) = inr (shows_answer c ms r.known h.shown applies heard x)
