-- What a router's caller has in bytes is what it has in payloads.
use Rattle.std.proofs.Common.{◌≡◌, ◌++◌, ℕ, Bool, true, false, if◌then◌else◌, List, [], ◌∷◌}
use Rattle.std.proofs.Common.{Option, Some, None, map, refl, sym, ap, subst, ◌∙◌, append-nil}
use Rattle.std.specs.List.{concat}
use Rattle.std.proofs.lemmas.List.{map-append}
use Rattle.std.proofs.lemmas.List.Folds.{concat-append}
use Rattle.rtr_units.specs.End.{EndMeaning}
use Rattle.rtr_payload.specs.Payloads.{Payload}
use Rattle.rtr_payload.specs.Units.{IsUnit}
use Rattle.rtr_wire.specs.Sequences.{AreUnits}
use Rattle.rtr_wire.proofs.Push.{units_push}
use Rattle.data_memory.specs.Data.{Change}
use Rattle.data_memory.specs.Deltas.{unit_of}
use Rattle.data_slices.specs.Canonical.{HoldsData}
use Rattle.data_slices.specs.Order.{Sends}
use Rattle.data_slices.proofs.AnyVersions.{alone}
use Rattle.session_router.specs.declared.event.Action.{Action}
use Rattle.session_router.specs.declared.event.Action.TheVariants as actions
use Rattle.session_router.specs.declared.event.Ending.{Ending}
use Rattle.session_router.specs.declared.event.Event.{Event}
use Rattle.session_router.specs.declared.event.Event.TheVariants as events
use Rattle.session_router.specs.declared.head.Fault.{Fault}
use Rattle.session_router.specs.declared.head.Head.{Head}
use Rattle.session_router.specs.declared.head.Known.{Known}
use Rattle.session_router.specs.declared.router.Phase.{Phase}
use Rattle.session_router.specs.declared.router.Phase.TheVariants as phases
use Rattle.session_router.specs.declared.router.Router.{Router}
use Rattle.session_router.specs.declared.settings.Settings.{Settings}
use Rattle.session_router.specs.Histories.{Caller, Host, host_after}
use Rattle.session_router.specs.Rules.{Adopts, Begins, Closes, Completes, Drops}
use Rattle.session_router.specs.Rules.{Keeps, Loses, Rule, SameKnown, Waits}
use Rattle.session_router.specs.Rules.{known_of}
use Rattle.session_cache.specs.Worlds.{Sent, caller_of, changes_of}
use Rattle.session_cache.proofs.Agreement.{keeps_one}
use Rattle.session_bytes.specs.Heads.{HasHead, end_head}
use Rattle.session_bytes.specs.Reading.{EndsConnection}
use Rattle.session_bytes.specs.ShownData.{AppliesAnswers}
use Rattle.session_bytes.proofs.Whole.{EndsAs, Written, end_named, written}
use Rattle.session_laws.specs.Editions.{PayloadHost, if_made, made_from, payload_source}
use Rattle.session_laws.specs.Pipes.{Bytes, IsOnItsWay, TellsOfItself}

-- a router's caller, in payloads
abbrev pub payload_caller : Settings → Caller (List Change) (List Payload)
payload_caller s = caller_of (List Payload) Change payload_source s

-- ---- the relation

pub record IsMade (k : Known) (b : List ℕ) (d : Option (List Payload)) : Type 0 where
  pub payloads : List Payload
  pub end : EndMeaning
  pub is : d ≡ Some payloads
  pub holds : HoldsData b payloads end
  pub named : known_of (end_head end 0) ≡ k

abbrev pub IsShown : Router → Option Bytes → Option (List Payload) → Type 0
IsShown r None None = Unit {0}
IsShown r (Some b) (Some d) =
    (end : EndMeaning) × HoldsData b d end
    × (r.has_data ≡ true → known_of (end_head end 0) ≡ r.known)
IsShown r _ _ = ⊥

pub record Holds (r : Router) (kept : List ℕ) (made shown : Option Bytes)
    (h : PayloadHost) : Type 0 where
  pub kept_is : r.phase ≡ phases.Reading → AreUnits kept
      (map (unit_of r.version) (changes_of h.kept))
  pub made_is : r.phase ≡ phases.Applying → (b : List ℕ) → made ≡ Some b → IsMade r.answer b h.made
  -- whatever the phase
  pub has_made : (b : List ℕ) → made ≡ Some b → (d : List Payload) × (h.made ≡ Some d)
  pub shown_is : IsShown r shown h.shown

-- what a caller has in bytes is this
abbrev pub HostHolds : Router → Host Bytes Bytes → PayloadHost → Type 0
HostHolds r host h = Holds r (concat host.kept) host.made host.shown h

-- ---- what nothing touches

shown_same : (r r' : Router) (s : Option Bytes) (d : Option (List Payload)) → SameKnown r r' →
    IsShown r s d → IsShown r' s d
shown_same r r' None None same x = tt
shown_same r r' None (Some d) same x = absurd x
shown_same r r' (Some b) None same x = absurd x
shown_same r r' (Some b) (Some d) same (end, holds, named) =
    (end, holds, λ has. named (sym same.has_data ∙ has) ∙ sym same.known)

-- where nothing is read nor made
elsewhere : (r r' : Router) (kept : List ℕ) (made shown : Option Bytes)
    (h : PayloadHost) (p : Phase) → r'.phase ≡ p →
    (p ≡ phases.Reading → ⊥) → (p ≡ phases.Applying → ⊥) → SameKnown r r' →
    Holds r kept made shown h → Holds r' kept made shown h
elsewhere r r' kept made shown h p is reads makes same x = record {
  kept_is = λ e. absurd (reads (sym is ∙ e));
  made_is = λ e b m. absurd (makes (sym is ∙ e));
  has_made = x.has_made;
  shown_is = shown_same r r' shown h.shown same x.shown_is;
}

on_wait : (e : Event) (r r' : Router) (kept : List ℕ) (made shown : Option Bytes)
    (h : PayloadHost) → Waits r e r' → Holds r kept made shown h →
    Holds r' kept made shown h
on_wait e r r' kept made shown h w x = record {
  kept_is = λ p. subst (λ v. AreUnits kept (map (unit_of v) (changes_of h.kept)))
      (sym w.talk.version)
      (x.kept_is (sym w.talk.phase ∙ p));
  made_is = λ p b m. subst (λ (k : Known). IsMade k b h.made) (sym w.talk.answer)
      (x.made_is (sym w.talk.phase ∙ p) b m);
  has_made = x.has_made;
  shown_is = shown_same r r' shown h.shown w.same x.shown_is;
}

-- ---- data go

on_drop : (r r' : Router) (kept : List ℕ) (made shown : Option Bytes)
    (h : PayloadHost) → Loses r r' → Holds r kept made shown h →
    Holds r' kept made None (record { kept = h.kept; made = h.made; shown = None })
on_drop r r' kept made shown h w x =
    let p = w.phase in
    record {
      kept_is = λ e. absurd cc;
      made_is = λ e b m. absurd cc;
      has_made = x.has_made;
      shown_is = tt;
    }

-- whatever was kept is dropped, or not
pub on_end : (e : Event) (z : Ending) (r r' : Router) (kept left : List ℕ)
    (made shown : Option Bytes) (h : PayloadHost) → Closes r e z r' → Holds r kept made shown h →
    Holds r' left made (if z.drop then None else shown)
    (record { kept = h.kept; made = h.made; shown = if z.drop then None else h.shown })
on_end e z r r' kept left made shown h w x =
    let p = w.phase in
    record {
      kept_is = λ e. absurd cc;
      made_is = λ e b m. absurd cc;
      has_made = x.has_made;
      shown_is = go z.drop w.data_then;
    }
  where
    go : (d : Bool) → Drops d r r' →
        IsShown r' (if d then None else shown) (if d then None else h.shown)
    go true drops = tt
    go false drops = shown_same r r' shown h.shown drops x.shown_is

-- ---- a response

on_begin : (u : Head) (r r' : Router) (kept : List ℕ) (made shown : Option Bytes)
    (h : PayloadHost) → Begins r u r' → Holds r kept made shown h →
    Holds r' [] made shown (record { kept = []; made = h.made; shown = h.shown })
on_begin u r r' kept made shown h w x =
    let p = w.phase in
    record {
      kept_is = λ e. refl;
      made_is = λ e b m. absurd cc;
      has_made = x.has_made;
      shown_is = shown_same r r' shown h.shown w.same x.shown_is;
    }

pub on_keep : (b : List ℕ) (u : Sent Change) (r r' : Router) (kept : List ℕ)
    (made shown : Option Bytes) (h : PayloadHost) → Keeps r u.head r' →
    IsOnItsWay b u → Holds r kept made shown h →
    Holds r' (kept ++ b) made shown
    (record { kept = h.kept ++ u.body ∷ []; made = h.made; shown = h.shown })
on_keep b u r r' kept made shown h w way x =
    let p = w.talk.phase ∙ w.phase in
    let v : r'.version ≡ r.version = w.talk.version in
    let (change, body, unit) = way.carries r.version w.kind in
    let unit' : IsUnit b (unit_of r'.version change) =
    subst (λ v. IsUnit b (unit_of v change)) (w.version ∙ sym v) unit in
    let old : List Change = changes_of h.kept in
    let before : AreUnits kept (map (unit_of r'.version) old) =
    subst (λ v. AreUnits kept (map (unit_of v) (changes_of h.kept))) (sym v) (x.kept_is w.phase) in
    record {
      kept_is = λ e.
          subst (λ ms. AreUnits (kept ++ b) ms)
          (sym (map-append (unit_of r'.version) old (change ∷ []))
          ∙ ap (λ (cs : List Change). map (unit_of r'.version) (old ++ cs)) (sym body)
          ∙ ap (λ (cs : List Change). map (unit_of r'.version) cs) (sym (keeps_one h.kept u.body)))
          (units_push kept b (map (unit_of r'.version) old) (unit_of r'.version change) before
          unit');
      made_is = λ e b m. absurd cc;
      has_made = x.has_made;
      shown_is = shown_same r r' shown h.shown w.same x.shown_is;
    }

-- ---- an end of data

-- the sequence that a response is
sequence : (v : ℕ) (kept b : List ℕ) (cs : List Change) (k : Known) (z : EndsAs k b) →
    AreUnits kept (map (unit_of v) cs) → k.version ≡ v → Sends (kept ++ b) cs z.end
sequence v kept b cs k z units is = record {
  bytes = kept ++ b;
  accepts = record {
    rest = [];
    parts = sym (append-nil (kept ++ b));
    sequence = record {
      front = kept;
      last = b;
      parts = refl;
      units = subst (λ v. AreUnits kept (map (unit_of v) cs)) (sym is ∙ z.version) units;
      end = z.is;
    };
  };
}

-- what the changes make of these data, in bytes
makes : (c : Caller Bytes Bytes) (old : Option Bytes) (kept : List Bytes) (b new : List ℕ)
    (r : Router) (d : Option (List Payload)) (cs : List Change) (k : Known) → AppliesAnswers c →
    (z : EndsAs k b) → Sends (concat kept ++ b) cs z.end → IsShown r old d →
    c.make old kept b ≡ Some new → IsMade k new (made_from d cs)
makes c None kept b new r None cs k applies z sends shown made =
    let a = applies None kept b new made in
    let x : Written [] cs z.end (_) =
    written b (concat kept ++ b) a.places a.size a.before a.after [] cs z.end z.end a.applies
    (alone b z.end z.is) sends in
    record {
      payloads = x.payloads;
      end = z.end;
      is = ap if_made x.made;
      holds = subst (λ l. HoldsData l x.payloads z.end) (sym a.new_is) x.holds;
      named = z.named;
    }
makes c (Some old) kept b new r (Some d) cs k applies z sends (end, holds, named) made =
    let a = applies (Some old) kept b new made in
    let x : Written d cs z.end (_) =
    written old (concat kept ++ b) a.places a.size a.before a.after d cs end z.end a.applies
    holds sends in
    record {
      payloads = x.payloads;
      end = z.end;
      is = ap if_made x.made;
      holds = subst (λ l. HoldsData l x.payloads z.end) (sym a.new_is) x.holds;
      named = z.named;
    }
makes c None kept b new r (Some d) cs k applies z sends shown made = absurd shown
makes c (Some old) kept b new r None cs k applies z sends shown made = absurd shown

apply_makes : (c : Caller Bytes Bytes) (n : ℕ) (b : List ℕ) (u : Head) (on : Bool) (r r' : Router)
    (host : Host Bytes Bytes) (h : PayloadHost) → AppliesAnswers c →
    HasHead b u → Completes r n u on r' → HostHolds r host h → (new : List ℕ) →
    c.make (if on then host.shown else None) host.kept b ≡ Some new →
    IsMade r'.answer new (made_from (if on then h.shown else None) (changes_of h.kept))
apply_makes c n b u on r r' host h applies has w x new made =
    let z : EndsAs r'.answer b = end_named b u r'.answer has w.kind w.answer in
    let version : r'.answer.version ≡ r.version =
    ap (λ (k : Known). k.version) w.answer ∙ w.version in
    makes c (if on then host.shown else None) host.kept b new r (if on then h.shown else None)
    (changes_of h.kept) r'.answer applies z
    (sequence r.version (concat host.kept) b (changes_of h.kept) r'.answer z (x.kept_is w.from)
    version)
    (old on) made
  where
    old : (on : Bool) →
        IsShown r (if on then host.shown else None) (if on then h.shown else None)
    old true = x.shown_is
    old false = tt

on_apply : (c : Caller Bytes Bytes) (n : ℕ) (b : List ℕ) (u : Head) (on : Bool) (r r' : Router)
    (host : Host Bytes Bytes) (h : PayloadHost) → AppliesAnswers c →
    HasHead b u → Completes r n u on r' → HostHolds r host h →
    Holds r' (concat host.kept) (c.make (if on then host.shown else None) host.kept b) host.shown
    (record {
      kept = h.kept;
      made = made_from (if on then h.shown else None) (changes_of h.kept);
      shown = h.shown;
    })
on_apply c n b u on r r' host h applies has w x =
    let p = w.phase in
    record {
      kept_is = λ e. absurd cc;
      made_is = λ e. apply_makes c n b u on r r' host h applies has w x;
      has_made = λ new made.
          let m : IsMade r'.answer new (made_from (if on then h.shown else None)
          (changes_of h.kept)) =
          apply_makes c n b u on r r' host h applies has w x new made in
          (m.payloads, m.is);
      shown_is = shown_same r r' host.shown h.shown w.same x.shown_is;
    }

on_show : (n : ℕ) (r r' : Router) (kept : List ℕ) (made shown : Option Bytes)
    (h : PayloadHost) (b : List ℕ) → made ≡ Some b → Adopts r n r' →
    Holds r kept made shown h →
    Holds r' kept made made (record { kept = h.kept; made = h.made; shown = h.made })
on_show n r r' kept made shown h b is w x =
    let p = w.phase in
    let z : IsMade r.answer b h.made = x.made_is w.from b is in
    record {
      kept_is = λ e. absurd cc;
      made_is = λ e b m. absurd cc;
      has_made = x.has_made;
      shown_is = subst (λ m. IsShown r' m h.made) (sym is)
          (subst (λ d. IsShown r' (Some b) d) (sym z.is)
          (z.end, z.holds, λ has. z.named ∙ sym w.known));
    }

-- ---- one step

plain_phase : (r r' : Router) (host : Host Bytes Bytes) (h : PayloadHost)
    (p : Phase) → r'.phase ≡ p → (p ≡ phases.Reading → ⊥) → (p ≡ phases.Applying → ⊥) →
    SameKnown r r' → HostHolds r host h → HostHolds r' host h
plain_phase r r' host h p is reads makes same x =
    elsewhere r r' (concat host.kept) host.made host.shown h p is reads makes same x

-- at what a router is told of itself
pub on_tells : (c : Caller Bytes Bytes) (n : ℕ) (e : Event) (a : Action)
    (r r' : Router) (host : Host Bytes Bytes) (h : PayloadHost) →
    TellsOfItself host e → Rule r n e a r' → HostHolds r host h →
    HostHolds r' (host_after c host [] a)
    (host_after (payload_caller r.settings) h [] a)
on_tells c n e actions.Wait r r' host h tells w x =
    on_wait e r r' (concat host.kept) host.made host.shown h w x
on_tells c n e (actions.End z) r r' host h tells w x =
    on_end e z r r' (concat host.kept) (concat host.kept) host.made host.shown h w x
on_tells c n e actions.Drop r r' host h tells w x =
    on_drop r r' (concat host.kept) host.made host.shown h w x
on_tells c n e (actions.Ask q) r r' host h tells w x =
    plain_phase r r' host h phases.Asked w.phase (λ e. cc) (λ e. cc) w.same x
on_tells c n events.Tick actions.Connect r r' host h tells w x =
    plain_phase r r' host h phases.Connecting w.phase (λ e. cc) (λ e. cc) w.same x
on_tells c n events.Applied actions.Show r r' host h tells w x =
    on_show n r r' (concat host.kept) host.made host.shown h tells.0 tells.1 w x
on_tells c n (events.Came u) _ r r' host h tells w x = absurd tells
on_tells c n events.Connected _ r r' host h tells w x = absurd tells
on_tells c n (events.Faulty f) _ r r' host h tells w x = absurd tells
on_tells c n _ _ r r' host h tells w x = absurd w

pub on_connects : (c : Caller Bytes Bytes) (n : ℕ) (a : Action) (r r' : Router)
    (host : Host Bytes Bytes) (h : PayloadHost) →
    Rule r n events.Connected a r' → HostHolds r host h →
    HostHolds r' (host_after c host [] a)
    (host_after (payload_caller r.settings) h [] a)
on_connects c n actions.Wait r r' host h w x =
    on_wait events.Connected r r' (concat host.kept) host.made host.shown h w x
on_connects c n (actions.End z) r r' host h w x =
    on_end events.Connected z r r' (concat host.kept) (concat host.kept) host.made host.shown h w x
on_connects c n actions.Drop r r' host h w x =
    on_drop r r' (concat host.kept) host.made host.shown h w x
on_connects c n (actions.Ask q) r r' host h w x =
    plain_phase r r' host h phases.Asked w.phase (λ e. cc) (λ e. cc) w.same x
on_connects c n actions.Connect r r' host h w x = absurd w
on_connects c n actions.Begin r r' host h w x = absurd w
on_connects c n actions.Keep r r' host h w x = absurd w
on_connects c n (actions.Apply on) r r' host h w x = absurd w
on_connects c n actions.Show r r' host h w x = absurd w
on_connects c n actions.NoData r r' host h w x = absurd w

-- at a unit that is refused
pub on_refused : (c : Caller Bytes Bytes) (n : ℕ) (f : Fault) (a : Action)
    (r r' : Router) (host : Host Bytes Bytes) (h : PayloadHost) →
    Rule r n (events.Faulty f) a r' → HostHolds r host h →
    HostHolds r' (host_after c host [] a)
    (host_after (payload_caller r.settings) h [] a)
on_refused c n f actions.Wait r r' host h w x =
    on_wait (events.Faulty f) r r' (concat host.kept) host.made host.shown h w x
on_refused c n f (actions.End z) r r' host h w x =
    on_end (events.Faulty f) z r r' (concat host.kept) (concat host.kept) host.made host.shown h w x
on_refused c n f actions.Drop r r' host h w x =
    on_drop r r' (concat host.kept) host.made host.shown h w x
on_refused c n f (actions.Ask q) r r' host h w x = absurd w.may
on_refused c n f actions.Connect r r' host h w x = absurd w
on_refused c n f actions.Begin r r' host h w x = absurd w
on_refused c n f actions.Keep r r' host h w x = absurd w
on_refused c n f (actions.Apply on) r r' host h w x = absurd w
on_refused c n f actions.Show r r' host h w x = absurd w
on_refused c n f actions.NoData r r' host h w x = absurd w

pub kept_more : (r : Router) (host : Host Bytes Bytes) (b : List ℕ)
    (h : PayloadHost) →
    Holds r (concat host.kept ++ b) host.made host.shown h →
    Holds r (concat (host.kept ++ b ∷ [])) host.made host.shown h
kept_more r host b h x =
    subst (λ l. Holds r l host.made host.shown h)
    (sym (concat-append host.kept (b ∷ [])
    ∙ ap (λ (l : List ℕ). concat host.kept ++ l) (append-nil b)))
    x

-- at a unit that came
pub on_unit : (c : Caller Bytes Bytes) (n : ℕ) (b : List ℕ) (u : Sent Change)
    (a : Action) (r r' : Router) (host : Host Bytes Bytes) (h : PayloadHost) →
    AppliesAnswers c → IsOnItsWay b u → Rule r n (events.Came u.head) a r' → HostHolds r host h →
    HostHolds r' (host_after c host b a)
    (host_after (payload_caller r.settings) h u.body a)
on_unit c n b u actions.Wait r r' host h applies way w x =
    on_wait (events.Came u.head) r r' (concat host.kept) host.made host.shown h w x
on_unit c n b u (actions.End z) r r' host h applies way w x =
    on_end (events.Came u.head) z r r' (concat host.kept) (concat host.kept) host.made host.shown h
    w x
on_unit c n b u actions.Drop r r' host h applies way w x =
    on_drop r r' (concat host.kept) host.made host.shown h w x
on_unit c n b u (actions.Ask q) r r' host h applies way w x =
    plain_phase r r' host h phases.Asked w.phase (λ e. cc) (λ e. cc) w.same x
on_unit c n b u actions.Begin r r' host h applies way w x =
    on_begin u.head r r' (concat host.kept) host.made host.shown h w x
on_unit c n b u actions.Keep r r' host h applies way w x =
    kept_more r' host b (record { kept = h.kept ++ u.body ∷ []; made = h.made; shown = h.shown })
    (on_keep b u r r' (concat host.kept) host.made host.shown h w way x)
on_unit c n b u (actions.Apply on) r r' host h applies way w x =
    on_apply c n b u.head on r r' host h applies way.has w x
on_unit c n b u actions.NoData r r' host h applies way w x =
    plain_phase r r' host h phases.Waiting w.phase (λ e. cc) (λ e. cc) w.same x
on_unit c n b u actions.Connect r r' host h applies way w x = absurd w
on_unit c n b u actions.Show r r' host h applies way w x = absurd w

-- at one that ends the connection, whatever units were kept before it
pub on_end_alone : (c : Caller Bytes Bytes) (n : ℕ) (b : List ℕ) (u : Sent Change) (a : Action)
    (r r' : Router) (kept : List ℕ) (host : Host Bytes Bytes) (h : PayloadHost) → EndsConnection a →
    Rule r n (events.Came u.head) a r' → Holds r kept host.made host.shown h →
    HostHolds r' (host_after c host b a) (host_after (payload_caller r.settings) h u.body a)
on_end_alone c n b u (actions.End z) r r' kept host h ends w x =
    on_end (events.Came u.head) z r r' kept (concat host.kept) host.made host.shown h w x
on_end_alone c n b u _ r r' kept host h ends w x = absurd ends
