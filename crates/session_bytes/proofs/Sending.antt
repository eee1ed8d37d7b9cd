-- Units that were sent one after the other are heard as they were sent.
use native.Mathlib.Omega.{arith}
use Rattle.std.proofs.Common.{◌≡◌, ◌⊎◌, inl, inr, ℕ, ◌≤◌, ◌<◌, Bool, true, false, cond, List}
use Rattle.std.proofs.Common.{[], ◌∷◌, ◌++◌, length, take, drop, get_or, Option, Some, None, ltb}
use Rattle.std.proofs.Common.{refl, sym, ap, subst, ◌∙◌, append_assoc}
use Rattle.std.specs.List.{concat}
use Rattle.std.specs.Option.{option_or}
use Rattle.std.specs.Prelude.{IsTrue}
use Rattle.std.proofs.Math.Seq.{take-append_seam}
use Rattle.std.proofs.lemmas.Bool.{le-ltb, lt-ltb, ltb-true, ltb-false}
use Rattle.std.proofs.lemmas.List.{append-nil, take-append-drop, take-append-le, drop-append-le}
use Rattle.std.proofs.lemmas.List.{length-take-le}
use Rattle.std.proofs.lemmas.List.Folds.{concat-append}
use Rattle.rtr_units.specs.Header.{version_field, type_field, length_field}
use Rattle.rtr_units.specs.StopCauses.{Refusal, short}
use Rattle.rtr_units.proofs.Headers.{same_header}
use Rattle.rtr_payload.specs.FaultSteps.{first_unit}
use Rattle.rtr_payload.specs.FirstFault.{is_payload_or_end, prefix_fault}
use Rattle.rtr_payload.proofs.ByFields.{fields_unit}
use Rattle.rtr_payload.proofs.Frames.{end_fault}
use Rattle.rtr_payload.proofs.Rests.{begins_unit_none}
use Rattle.rtr_payload.specs.UnitFields.{Fields, HasFields, LengthsAgree, meaning}
use Rattle.unit_views.specs.Faults.{NamesRefusal}
use Rattle.unit_views.specs.declared.fault.ViewFault.{ViewFault}
use Rattle.unit_views.specs.declared.fault.ViewFault.TheVariants as faults
use Rattle.unit_any.specs.AnyFields.{AnyFields, HasAnyFields, serial_notify, serial_query}
use Rattle.unit_any.specs.AnyFields.{reset_query, cache_response, payload, end_of_data}
use Rattle.unit_any.specs.AnyFields.{cache_reset, error_report}
use Rattle.unit_any.specs.SessionKinds.{any_header_fault, session_unit}
use Rattle.unit_any.specs.SessionViews.{session_fault}
use Rattle.unit_any.proofs.Agreement.{has_type, payload_type, same_faults}
use Rattle.unit_any.proofs.Forms.{plain_shown}
use Rattle.unit_any.proofs.Wholes.{any_one, any_whole}
use Rattle.session_router.specs.Step.{IsStep}
use Rattle.session_router.specs.declared.event.Action.{Action}
use Rattle.session_router.specs.declared.event.Action.TheVariants as actions
use Rattle.session_router.specs.declared.event.Event.TheVariants as events
use Rattle.session_router.specs.declared.head.Head.{Head}
use Rattle.session_router.specs.declared.router.Router.{Router}
use Rattle.session_cache.specs.declared.cache.Cache.{Cache}
use Rattle.session_cache.specs.declared.event.Answer.{Answer}
use Rattle.session_cache.specs.declared.event.Present.{Present}
use Rattle.session_bytes.specs.Heads.{HasHead, IsInOrder, head_of}
use Rattle.session_bytes.specs.Reading.{Acts, Hears, KeepsAll, kept_none}
use Rattle.session_bytes.specs.Reading.{kept_more}
use Rattle.session_bytes.specs.Sending.{ActsOnSent, AnswersSent, AreWhole, CacheHearsSent}
use Rattle.session_bytes.specs.Sending.{HearsSent, IsLessThanFirst}
use Rattle.session_bytes.specs.Sending.{KeepsEach, KeepsSent, keeps_none, keeps_next}
use Rattle.session_bytes.specs.Serving.{AnswersUnit, HearsRouter}
use Rattle.session_bytes.specs.declared.serving.Served.{Served}
use Rattle.session_bytes.specs.declared.serving.Served.TheVariants as served
use Rattle.session_bytes.specs.declared.telling.Told.{Told}
use Rattle.session_bytes.specs.declared.telling.Told.TheVariants as told
use Rattle.session_bytes.proofs.Left.{none_named, typed}
use Rattle.session_bytes.proofs.OneList.{one_list}

-- ---- a whole unit has no fault, whatever follows it

payload_none : (b r : List ℕ) (f : Fields) → HasAnyFields b (payload f) → LengthsAgree f →
    session_fault (b ++ r) ≡ None
payload_none b r f has order =
    let shape : HasFields b f = record {
      fits = has.fits.0;
      limits = has.fits.1;
      bytes = has.bytes;
      are_bytes = has.are_bytes;
    } in
    let kind = (same_header b r (any_whole b (payload f) has).header).kind in
    same_faults (b ++ r) (typed (type_field (b ++ r))
    (subst (λ t. (t ≡ 4) ⊎ ((t ≡ 6) ⊎ ((t ≡ 9) ⊎ (t ≡ 11))))
    (sym (kind ∙ ap type_field has.bytes)) (payload_type f)))
    ∙ begins_unit_none (b ++ r) (record {
      bytes = b;
      means = meaning f;
      rest = r;
      unit = fields_unit b f shape order;
      parts = refl;
    })

seven : (t : ℕ) → t ≡ 7 → IsTrue (is_payload_or_end t)
seven t e = rw e refl

pub whole_none : (b r : List ℕ) (f : AnyFields) → HasAnyFields b f → IsInOrder f →
    session_fault (b ++ r) ≡ None
whole_none b r (serial_notify v s q) has order =
    plain_shown b r (any_whole b _ has) (inl (inl (has_type b _ has)))
whole_none b r (serial_query v s q) has order =
    plain_shown b r (any_whole b _ has) (inl (inr (has_type b _ has)))
whole_none b r (reset_query v s) has order =
    plain_shown b r (any_whole b _ has) (inr (inl (inl (has_type b _ has))))
whole_none b r (cache_response v s) has order =
    plain_shown b r (any_whole b _ has) (inr (inl (inr (inl (has_type b _ has)))))
whole_none b r (payload f) has order = payload_none b r f has order
whole_none b r (end_of_data e) has order =
    let kind = (same_header b r (any_whole b _ has).header).kind in
    same_faults (b ++ r) (seven (type_field (b ++ r)) (kind ∙ has_type b _ has))
    ∙ end_fault b r e (record { fits = has.fits; bytes = has.bytes })
whole_none b r (cache_reset v s) has order =
    plain_shown b r (any_whole b _ has) (inr (inl (inr (inr (has_type b _ has)))))
whole_none b r (error_report v c body) has order =
    plain_shown b r (any_whole b _ has) (inr (inr (has_type b _ has)))

-- ---- and one that is cut off is short, and nothing else

cut_long : (b input more : List ℕ) (f : AnyFields) → HasAnyFields b f → input ++ more ≡ b →
    length input < length b → 8 ≤ length input → session_fault input ≡ Some short
cut_long b input more f has parts less long =
    let w = any_whole b f has in
    let same = same_header input more long in
    let version : version_field input ≡ version_field b =
    sym same.version ∙ ap version_field parts in
    let kind : type_field input ≡ type_field b = sym same.kind ∙ ap type_field parts in
    let flags : get_or input 2 0 ≡ get_or b 2 0 =
    sym same.flags ∙ ap (λ l. get_or l 2 0) parts in
    let field : length_field input ≡ length_field b = sym same.size ∙ ap length_field parts in
    let fault : session_unit.fault input ≡ None =
    (λ i. any_header_fault (version i) (kind i) (flags i) (field i)) ∙ w.in_order in
    let cut : length input < length_field input = omega (arith, less, field, w.size) in
    (λ i.
    cond (le-ltb (length input) 8 long i) (Some short)
    (option_or (fault i)
    (cond (lt-ltb (length input) (length_field input) cut i) (Some short)
    (prefix_fault (type_field input) (first_unit input)))))

cut_short : (b input more : List ℕ) (f : AnyFields) → HasAnyFields b f → input ++ more ≡ b →
    length input < length b → session_fault input ≡ Some short
cut_short b input more f has parts less = go (ltb (length input) 8) refl
  where
    go : (c : Bool) → ltb (length input) 8 ≡ c → session_fault input ≡ Some short
    go true e = λ i.
        cond (e i) (Some short)
        (option_or (session_unit.fault input)
        (cond (ltb (length input) (length_field input)) (Some short)
        (prefix_fault (type_field input) (first_unit input))))
    go false e = cut_long b input more f has parts less (ltb-false (length input) 8 e)

is_short : (b : List ℕ) (e : ViewFault) (wrong : Option Refusal) → wrong ≡ Some short →
    NamesRefusal b wrong e → e ≡ faults.Short
is_short b (faults.Writer x) wrong is names = absurd names
is_short b faults.Short wrong is names = refl
is_short b (faults.UnitType t) wrong is names = let w = sym is ∙ names in cc
is_short b faults.UnitLength wrong is names = let w = sym is ∙ names in cc
is_short b faults.TooLong wrong is names = let w = sym is ∙ names in cc
is_short b faults.EmptyProviders wrong is names = let w = sym is ∙ names in cc
is_short b (faults.UnitVersion v) wrong is names = let w = sym is ∙ names in cc
is_short b (faults.Prefix rule) wrong is names = let w = sym is ∙ names in cc
is_short b faults.TooMany wrong is names = absurd names

-- ---- the front of what was sent

-- the input has the whole first unit, or less
in_front : (u us input later : List ℕ) → u ++ us ≡ input ++ later → length u ≤ length input →
    input ≡ u ++ drop (length u) input
in_front u us input later e within =
    sym (take-append-drop (length u) input)
    ∙ ap (λ (l : List ℕ). l ++ drop (length u) input)
    (sym (take-append-le (length u) input later within)
    ∙ ap (take (length u)) (sym e)
    ∙ take-append_seam u us)

cut_off : (u us input later : List ℕ) → u ++ us ≡ input ++ later → length input ≤ length u →
    input ++ drop (length input) u ≡ u
cut_off u us input later e within =
    ap (λ (l : List ℕ). l ++ drop (length input) u)
    (sym (take-append_seam input later)
    ∙ ap (take (length input)) (sym e)
    ∙ take-append-le (length input) u us within)
    ∙ take-append-drop (length input) u

nothing : (input later : List ℕ) → [] ≡ input ++ later → input ≡ []
nothing [] later e = refl
nothing (x ∷ xs) later e = absurd cc

-- what names why the input begins with no whole unit says that it is less than the first one
less : (sent : List (List ℕ)) (input later : List ℕ) (e : ViewFault) → AreWhole sent →
    concat sent ≡ input ++ later → NamesRefusal (first_unit input) (session_fault input) e →
    IsLessThanFirst sent input
less [] input later e whole is names = nothing input later is
less (u ∷ us) input later e (unit, whole) is names = go (ltb (length input) (length u)) refl
  where
    go : (c : Bool) → ltb (length input) (length u) ≡ c → length input < length u
    go true c = ltb-true (length input) (length u) c
    go false c =
        let within = ltb-false (length input) (length u) c in
        let front : input ≡ u ++ drop (length u) input =
        in_front u (concat us) input later is within in
        let none : session_fault input ≡ None =
        ap session_fault front
        ∙ whole_none u (drop (length u) input) unit.1.fields unit.1.has unit.1.in_order in
        absurd (none_named (first_unit input) (session_fault input) e none names)

only_short : (sent : List (List ℕ)) (input later : List ℕ) (e : ViewFault) → AreWhole sent →
    concat sent ≡ input ++ later → 0 < length input →
    NamesRefusal (first_unit input) (session_fault input) e → IsLessThanFirst sent input →
    e ≡ faults.Short
only_short [] input later e whole is some names none = absurd (omega (arith, some, ap length none))
only_short (u ∷ us) input later e (unit, whole) is some names less =
    is_short (first_unit input) e (session_fault input)
    (cut_short u input (drop (length input) u) unit.1.fields unit.1.has
    (cut_off u (concat us) input later is (omega (arith, less))) less) names

-- ---- units that are heard

not_empty : (u : List ℕ) (h : Head) → HasHead u h → 8 ≤ length u
not_empty u h x = (any_whole u x.fields x.has).header

pub record Next (u : List ℕ) (left : List (List ℕ)) (later : List ℕ) : Type 0 where
  pub others : List (List ℕ)
  pub is : left ≡ u ∷ others
  pub rest : concat others ≡ later

-- what the machine sees of the bytes of a unit, it sees of no others
pub one_head : (b : List ℕ) (h g : Head) → HasHead b h → HasHead b g → h ≡ g
one_head b h g x y =
    x.head ∙ ap (λ (f : AnyFields). head_of f (length b)) (one_list b x.fields y.fields x.has y.has)
    ∙ sym y.head

-- the next unit that is heard is the next one that was sent
pub next : (u : List ℕ) (h : Head) (left : List (List ℕ)) (later : List ℕ) → AreWhole left →
    HasHead u h → concat left ≡ u ++ later → Next u left later
next u h [] later whole unit is =
    let none = ap length (nothing u later is) in
    let some = not_empty u h unit in
    absurd (omega (arith, none, some))
next u h (v ∷ vs) later (first, whole) unit is =
    let same = any_one v u (concat vs) later first.1.fields unit.fields first.1.has unit.has is in
    record { others = vs; is = ap (λ (w : List ℕ). w ∷ vs) same.0; rest = same.1 }

pub whole_left : (heard left : List (List ℕ)) → AreWhole (heard ++ left) → AreWhole left
whole_left [] left whole = whole
whole_left (u ∷ us) left whole = whole_left us left whole.1

one_more : (n : ℕ) (r : Router) (us : List (List ℕ)) (mid : Router) (u : List ℕ) (h : Head)
    (r' : Router) → KeepsEach n r us mid → HasHead u h →
    IsStep mid n (events.Came h) actions.Keep r' → KeepsEach n r (us ++ u ∷ []) r'
one_more n r us mid u h r' (keeps_none r₀) unit step =
    keeps_next r u [] h r' r' unit step (keeps_none r')
one_more n r us mid u h r' (keeps_next r₀ v vs g next r₁ has first more) unit step =
    keeps_next r v (vs ++ u ∷ []) g next r' has first
    (one_more n next vs mid u h r' more unit step)

pub record Heard (n : ℕ) (r : Router) (sent : List (List ℕ)) (b later : List ℕ) (r' : Router) :
    Type 0 where
  pub heard : List (List ℕ)
  pub left : List (List ℕ)
  pub parts : sent ≡ heard ++ left
  pub bytes : concat heard ≡ b
  pub rest : concat left ≡ later
  pub kept : KeepsEach n r heard r'

pub keeps_heard : (n : ℕ) (r : Router) (b : List ℕ) (r' : Router) (sent : List (List ℕ))
    (later : List ℕ) → KeepsAll n r b r' → AreWhole sent → concat sent ≡ b ++ later →
    Heard n r sent b later r'
keeps_heard n r b r' sent later (kept_none r₀) whole is = record {
  heard = [];
  left = sent;
  parts = refl;
  bytes = refl;
  rest = is;
  kept = keeps_none r;
}
keeps_heard n r b r' sent later (kept_more r₀ b₀ u mid h r₁ before unit step) whole is =
    let x : Heard n r sent b₀ (u ++ later) mid =
    keeps_heard n r b₀ mid sent (u ++ later) before whole (is ∙ append_assoc b₀ u later) in
    let y : Next u x.left later =
    next u h x.left later (whole_left x.heard x.left (subst AreWhole x.parts whole)) unit x.rest in
    record {
      heard = x.heard ++ u ∷ [];
      left = y.others;
      parts = x.parts ∙ ap (λ (l : List (List ℕ)). x.heard ++ l) y.is
          ∙ sym (append_assoc x.heard (u ∷ []) y.others);
      bytes = concat-append x.heard (u ∷ []) ∙ (λ i. x.bytes i ++ append-nil u i);
      rest = y.rest;
      kept = one_more n r x.heard mid u h r' x.kept unit step;
    }

-- ---- what `tell` answers

pub front_of : (k : ℕ) (input later : List ℕ) →
    input ++ later ≡ take k input ++ (drop k input ++ later)
front_of k input later =
    ap (λ (l : List ℕ). l ++ later) (sym (take-append-drop k input))
    ∙ append_assoc (take k input) (drop k input) later

keeps_sent : (r : Router) (n : ℕ) (sent : List (List ℕ)) (input later : List ℕ) (k : ℕ)
    (r' : Router) → AreWhole sent → concat sent ≡ input ++ later →
    KeepsAll n r (take k input) r' → KeepsSent r n sent input k r'
keeps_sent r n sent input later k r' whole is kept =
    let x : Heard n r sent (take k input) (drop k input ++ later) r' =
    keeps_heard n r (take k input) r' sent (drop k input ++ later) kept whole
    (is ∙ front_of k input later) in
    record {
      heard = x.heard;
      left = x.left;
      parts = x.parts;
      bytes = x.bytes;
      kept = x.kept;
    }

-- from one place to another, and what follows
pub cut_twice : (start end : ℕ) (input : List ℕ) → start < end → end ≤ length input →
    drop start input ≡ drop start (take end input) ++ drop end input
cut_twice start end input order within =
    let size : length (take end input) ≡ end = length-take-le end input within in
    ap (drop start) (sym (take-append-drop end input))
    ∙ drop-append-le start (take end input) (drop end input) (omega (arith, order, size))

acts_on_sent : (r : Router) (n : ℕ) (sent : List (List ℕ)) (input later : List ℕ)
    (start end : ℕ) (a : Action) (r' : Router) → AreWhole sent → concat sent ≡ input ++ later →
    Acts r n input start end a r' → ActsOnSent r n sent input start end a r'
acts_on_sent r n sent input later start end a r' whole is acts =
    let u : List ℕ = drop start (take end input) in
    let rest : List ℕ = drop end input ++ later in
    let x : Heard n r sent (take start input) (drop start input ++ later) acts.before =
    keeps_heard n r (take start input) acts.before sent (drop start input ++ later) acts.kept whole
    (is ∙ front_of start input later) in
    let y : Next u x.left rest =
    next u acts.head x.left rest (whole_left x.heard x.left (subst AreWhole x.parts whole))
    acts.unit
    (x.rest
    ∙ ap (λ (l : List ℕ). l ++ later) (cut_twice start end input acts.order acts.within)
    ∙ append_assoc u (drop end input) later) in
    record {
      heard = x.heard;
      unit = u;
      left = y.others;
      parts = x.parts ∙ ap (λ (l : List (List ℕ)). x.heard ++ l) y.is;
      bytes = x.bytes;
      unit_bytes = refl;
      before = acts.before;
      kept = x.kept;
      head = acts.head;
      has = acts.unit;
      step = acts.step;
    }

pub hears_sent : (r : Router) (n : ℕ) (sent : List (List ℕ)) (input later : List ℕ) (ended : Bool)
    (t : Told) (r' : Router) → AreWhole sent → concat sent ≡ input ++ later →
    Hears r n input ended t r' → HearsSent r n sent input ended t r'
hears_sent r n sent input later ended told.Awaits r' whole is x =
    (less sent input later faults.Short whole is x.short.0, x.same)
hears_sent r n sent input later ended (told.Kept k) r' whole is x =
    keeps_sent r n sent input later k r' whole is x.kept
hears_sent r n sent input later ended (told.Acted start end a) r' whole is x =
    acts_on_sent r n sent input later start end a r' whole is x
hears_sent r n sent input later ended (told.Refused e a) r' whole is x =
    let part = less sent input later e whole is x.fault.0 in
    let cut = only_short sent input later e whole is x.some x.fault.0 part in
    (cut, x.cut cut, part)

-- ---- what `serve` answers

answers_sent : (c : Cache) (n : ℕ) (p : Present) (kept : List ℕ) (sent : List (List ℕ))
    (input later : List ℕ) (size : ℕ) (a : Answer) (c' : Cache) → AreWhole sent →
    concat sent ≡ input ++ later → AnswersUnit c n p kept input size a c' →
    AnswersSent c n p kept sent input size a c'
answers_sent c n p kept sent input later size a c' whole is x =
    let u : List ℕ = take size input in
    let y : Next u sent (drop size input ++ later) =
    next u x.head sent (drop size input ++ later) whole x.unit (is ∙ front_of size input later) in
    record {
      unit = u;
      left = y.others;
      parts = y.is;
      bytes = refl;
      head = x.head;
      has = x.unit;
      step = x.step;
    }

pub hears_asked : (c : Cache) (n : ℕ) (p : Present) (kept : List ℕ) (sent : List (List ℕ))
    (input later : List ℕ) (ended : Bool) (s : Served) (c' : Cache) → AreWhole sent →
    concat sent ≡ input ++ later → HearsRouter c n p kept input ended s c' →
    CacheHearsSent c n p kept sent input ended s c'
hears_asked c n p kept sent input later ended served.Awaits c' whole is x =
    (less sent input later faults.Short whole is x.short.0, x.same)
hears_asked c n p kept sent input later ended (served.Answered size a) c' whole is x =
    answers_sent c n p kept sent input later size a c' whole is x
hears_asked c n p kept sent input later ended (served.Refused e a) c' whole is x =
    let part = less sent input later e whole is x.fault.0 in
    let cut = only_short sent input later e whole is x.some x.fault.0 part in
    (cut, x.cut cut, part)
