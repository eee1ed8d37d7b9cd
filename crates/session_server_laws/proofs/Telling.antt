-- What stays while the machine is told of a unit, or of something else.
use Rattle.std.proofs.Common.{◌≡◌, ℕ, Bool, true, false, ◌-◌, ◌<◌, ◌==◌, List, [], ◌∷◌, ◌++◌}
use Rattle.std.proofs.Common.{length, take, drop, nat_lt, if◌then◌else◌, refl, sym, ap, ◌∙◌, subst}
use Rattle.std.proofs.Common.{Option, Some, None, arith, append-nil, append_assoc, inl, inr}
use Rattle.std.specs.List.{concat}
use Rattle.std.proofs.lemmas.Bool.Decides.{nat_tests}
use Rattle.std.proofs.lemmas.List.{length-drop, take-append-drop}
use Rattle.std.proofs.lemmas.List.Folds.{concat-append}
use Rattle.session_router.specs.declared.head.Head.{Head}
use Rattle.session_cache.specs.CacheSteps.{IsCacheStep}
use Rattle.session_cache.specs.declared.cache.Cache.{Cache}
use Rattle.session_cache.specs.declared.event.Answer.{Answer}
use Rattle.session_cache.specs.declared.event.Answer.TheVariants as answers
use Rattle.session_cache.specs.declared.event.CacheEvent.{CacheEvent}
use Rattle.session_cache.specs.declared.event.CacheEvent.TheVariants as events
use Rattle.session_cache.specs.declared.event.Present.{Present}
use Rattle.session_bytes.specs.Heads.{HasHead}
use Rattle.session_bytes.specs.Reading.{fault_of}
use Rattle.session_bytes.specs.Serving.{HearsRouter, is_kept}
use Rattle.session_bytes.specs.declared.serving.Served.{Served}
use Rattle.session_bytes.specs.declared.serving.Served.TheVariants as served
use Rattle.session_bytes.proofs.Sending.{hears_asked}
use Rattle.session_laws.specs.Editions.{PayloadEdition}
use Rattle.session_laws.specs.Pipes.{Bytes}
use Rattle.session_server.specs.declared.connection.Connection.{Connection}
use Rattle.session_server.specs.declared.connection.Next.TheVariants as nexts
use Rattle.session_server.specs.Paces.{answered, input_taken, is_free, is_serving, next_at}
use Rattle.session_server.specs.Paces.{report_begun}
use Rattle.session_server_laws.specs.Services.{IsToldNext, WritesTurn, Does, Service, Turn}
use Rattle.session_server_laws.specs.Services.{served_answer, turn_begun, turn_given_up}
use Rattle.session_server_laws.specs.Services.{served_size, takes, served_unit}
use Rattle.session_server_laws.specs.Services.Does.{as_answered, gives_up}
use Rattle.session_server_laws.specs.Talks.{IsAnswerTo, told_unit, units_told}
use Rattle.session_server_laws.proofs.Steps.{empty, some_is, told_free, free_open, AfterUnit}
use Rattle.session_server_laws.proofs.Steps.{after_unit, AfterTime, after_tick, Ends, after_lost}
use Rattle.session_server_laws.proofs.Steps.{after_fault}
use Rattle.session_server_laws.proofs.Keeping.{HasNoUnit, nothing_left, Keeps, with_answer}
use Rattle.session_server_laws.proofs.Keeping.{begins_keeps, ends_keeps, none_filled}

-- ---- the machine is told of a unit

pub free_taken : (k : Connection) (n size : ℕ) → is_free (input_taken k n size) ≡ is_free k
free_taken k n size = go (size == 0)
  where
    go : (b : Bool) → is_free (if b then record k { fresh = false } else record k {
      filled = k.filled - size;
      fresh = nat_lt 0 (k.filled - size);
      begun = n;
    }) ≡ is_free k
    go true = refl
    go false = refl

pub filled_taken :
    (k : Connection) (n size : ℕ) → (size == 0) ≡ false
    → (input_taken k n size).filled ≡ k.filled - size
filled_taken k n size p = go (size == 0) p
  where
    go : (b : Bool) → b ≡ false → (if b then record k { fresh = false } else record k {
      filled = k.filled - size;
      fresh = nat_lt 0 (k.filled - size);
      begun = n;
    }).filled ≡ k.filled - size
    go true q = absurd cc
    go false q = refl

pub fresh_taken :
    (k : Connection) (n size : ℕ) → (size == 0) ≡ false
    → (input_taken k n size).fresh ≡ nat_lt 0 (k.filled - size)
fresh_taken k n size p = go (size == 0) p
  where
    go : (b : Bool) → b ≡ false → (if b then record k { fresh = false } else record k {
      filled = k.filled - size;
      fresh = nat_lt 0 (k.filled - size);
      begun = n;
    }).fresh ≡ nat_lt 0 (k.filled - size)
    go true q = absurd cc
    go false q = refl

pub no_zero : (size : ℕ) → 0 < size → (size == 0) ≡ false
no_zero size p = grind (arith, nat_tests)

-- the unit is the next of those that came
pub next_came :
    (told : List Bytes) (unit : Option Bytes) (size : ℕ) (input came : Bytes)
    → came ≡ concat told ++ input → unit ≡ Some (take size input)
    → came ≡ concat (told ++ told_unit unit) ++ drop size input
next_came told unit size input came is which =
    is
    ∙ ap (λ (l : Bytes). concat told ++ l) (sym (take-append-drop size input))
    ∙ sym (append_assoc (concat told) (take size input) (drop size input))
    ∙ ap (λ (l : Bytes). (concat told ++ l) ++ drop size input)
    (sym (append-nil (take size input)))
    ∙ ap (λ (l : Bytes). l ++ drop size input)
    (sym (concat-append told (take size input ∷ [])))
    ∙ ap (λ (u : Option Bytes). concat (told ++ told_unit u) ++ drop size input) (sym which)

-- no unit
pub none_came :
    (told : List Bytes) (unit : Option Bytes) (untold came : Bytes)
    → came ≡ concat told ++ untold → unit ≡ None
    → came ≡ concat (told ++ told_unit unit) ++ untold
none_came told unit untold came is which =
    is
    ∙ ap (λ (l : List Bytes). concat l ++ untold) (sym (append-nil told))
    ∙ ap (λ (u : Option Bytes). concat (told ++ told_unit u) ++ untold) (sym which)

-- a connection at which an answer may begin, with its machine and input
pub record IsReady (w : Service) : Type 0 where
  pub serving : is_serving w.connection.phase ≡ true
  pub live : w.cache.live ≡ true

pub ready : (had : List PayloadEdition) (w : Service) → Keeps had w → is_free w.connection ≡ true
    → IsReady w
ready had w x free =
    let o = free_open (is_serving w.connection.phase) w.connection.unsent free in
    record { serving = o; live = x.live o }

pub unit_came :
    (had : List PayloadEdition) (w : Service) (size : ℕ) (t : Turn) → Keeps had w
    → is_free w.connection ≡ true → t.unit ≡ Some (take size w.input)
    → w.came ≡ concat (units_told (t ∷ w.turns)) ++ drop size w.input
unit_came had w size t x free which = next_came (units_told w.turns) t.unit size w.input w.came
    (x.came ∙ ap (λ (l : Bytes). concat (units_told w.turns) ++ l)
    (x.waits (ready had w x free).serving)) which

pub is_whole :
    (w : Service) (size : ℕ) (u : Head) (t : Turn) → HasHead (take size w.input) u
    → t.unit ≡ Some (take size w.input)
    → (unit : Bytes) → t.unit ≡ Some unit → (head : Head) × HasHead unit head
is_whole w size u t has which unit e = (u, subst (λ l. HasHead l u) (some_is (sym which ∙ e)) has)

pub no_unit :
    (t : Turn) → t.unit ≡ None → (unit : Bytes) → t.unit ≡ Some unit
    → (head : Head) × HasHead unit head
no_unit t which unit e = absurd (let f = sym which ∙ e in cc)

pub written_then :
    (had : List PayloadEdition) (version : ℕ) (t : Turn) → WritesTurn had version t
    → WritesTurn had t.version t
written_then had version t written =
    subst (λ v. WritesTurn had v t) (sym written.version_is) written

pub unit_begins :
    (had : List PayloadEdition) (w : Service) (n begins number size : ℕ) (u : Head) (c : Cache)
    (t : Turn) → Keeps had w → is_free w.connection ≡ true → 0 < size
    → HasHead (take size w.input) u
    → t.unit ≡ Some (take size w.input) → WritesTurn had c.version t
    → IsAnswerTo u t.present.name t.answer × (c.version ≡ u.version) × (c.live ≡ true)
    → Keeps had (with_answer w
    (answered (input_taken w.connection n size) begins (length t.bytes) number)
    (drop size w.input) c t)
unit_begins had w n begins number size u c t x free some has which written (fits, version, live) =
    begins_keeps had w begins number (input_taken w.connection n size) (drop size w.input) c t x
    free (free_taken w.connection n size ∙ free)
    (unit_came had w size t x free which)
    (record {
      written = written_then had c.version t written;
      is = inl (record {
        query = take size w.input;
        told = which;
        head = u;
        has = has;
        fits = fits;
        version = written.version_is ∙ version;
      });
    })
    live filled (λ f. none_there f)
  where
    r : IsReady w
    r = ready had w x free

    filled : (input_taken w.connection n size).filled ≡ length (drop size w.input)
    filled = filled_taken w.connection n size (no_zero size some)
        ∙ ap (λ (l : ℕ). l - size) (x.filled r.serving) ∙ sym (length-drop size w.input)

    none_there : (input_taken w.connection n size).fresh ≡ false → HasNoUnit (drop size w.input)
    none_there f = subst HasNoUnit
        (sym (empty (drop size w.input)
        (sym filled ∙ filled_taken w.connection n size (no_zero size some)
        ∙ none_filled (w.connection.filled - size)
        (sym (fresh_taken w.connection n size (no_zero size some)) ∙ f))))
        nothing_left

pub unit_keeps :
    (had : List PayloadEdition) (w : Service) (n begins number size : ℕ) (u : Head) (a : Answer)
    (c : Cache) (t : Turn) → Keeps had w → is_free w.connection ≡ true → 0 < size
    → HasHead (take size w.input) u → t.unit ≡ Some (take size w.input)
    → WritesTurn had c.version t → t.answer ≡ a → AfterUnit u t.present.name a c
    → Keeps had (turn_begun a (takes w n size) begins number c t)
unit_keeps had w n begins number size u answers.Wait c t x free some has which written is after =
    absurd after
unit_keeps had w n begins number size u answers.Notify c t x free some has which written is after =
    absurd after.0
unit_keeps had w n begins number size u answers.All c t x free some has which written is after =
    unit_begins had w n begins number size u c t x free some has which written
    (subst (λ b. IsAnswerTo u t.present.name b) (sym is) after.0, after.1, after.2)
unit_keeps had w n begins number size u (answers.Changes since) c t x free some has which written
    is after = unit_begins had w n begins number size u c t x free some has which written
    (subst (λ b. IsAnswerTo u t.present.name b) (sym is) after.0, after.1, after.2)
unit_keeps had w n begins number size u answers.Reset c t x free some has which written is after =
    unit_begins had w n begins number size u c t x free some has which written
    (subst (λ b. IsAnswerTo u t.present.name b) (sym is) after.0, after.1, after.2)
unit_keeps had w n begins number size u answers.NoData c t x free some has which written is after =
    unit_begins had w n begins number size u c t x free some has which written
    (subst (λ b. IsAnswerTo u t.present.name b) (sym is) after.0, after.1, after.2)
unit_keeps had w n begins number size u (answers.End y) c t x free some has which written is
    after = ends_keeps had w begins (input_taken w.connection n size) (drop size w.input)
    (drop size w.input) c t x free (free_taken w.connection n size ∙ free)
    (unit_came had w size t x free which)
    (record {
      ends = inl (record { closing = y; end = is; written = written_then had c.version t written });
      whole = is_whole w size u t has which;
    })

-- ---- or of something else

-- the end, without a unit
pub end_keeps :
    (had : List PayloadEdition) (w : Service) (n number : ℕ) (k : Connection) (input : Bytes)
    (a : Answer) (c : Cache) (t : Turn) → Keeps had w → is_free w.connection ≡ true
    → is_free k ≡ true → t.unit ≡ None → WritesTurn had c.version t → t.answer ≡ a → Ends a
    → Keeps had (turn_begun a (record w { connection = k; input = input }) n number c t)
end_keeps had w n number k input (answers.End y) c t x free same which written is after =
    ends_keeps had w n k input x.untold c t x free same
    (none_came (units_told w.turns) t.unit x.untold w.came x.came which)
    (record {
      ends = inl (record { closing = y; end = is; written = written_then had c.version t written });
      whole = no_unit t which;
    })
end_keeps had w n number k input answers.Wait c t x free same which written is after = absurd after
end_keeps had w n number k input answers.All c t x free same which written is after = absurd after
end_keeps had w n number k input (answers.Changes since) c t x free same which written is after =
    absurd after
end_keeps had w n number k input answers.Reset c t x free same which written is after =
    absurd after
end_keeps had w n number k input answers.NoData c t x free same which written is after =
    absurd after
end_keeps had w n number k input answers.Notify c t x free same which written is after =
    absurd after

-- or the host gives up
pub end_given :
    (had : List PayloadEdition) (w : Service) (n : ℕ) (k : Connection) (input untold : Bytes)
    (c : Cache) (t : Turn) → Keeps had w → is_free w.connection ≡ true → is_free k ≡ true
    → w.came ≡ concat (units_told (t ∷ w.turns)) ++ untold → t.bytes ≡ []
    → ((unit : Bytes) → t.unit ≡ Some unit → (head : Head) × HasHead unit head)
    → Keeps had (turn_given_up (record w { connection = k; input = input }) n c t)
end_given had w n k input untold c t x free same came none whole = subst
    (λ (b : Bytes). Keeps had (record w {
      connection = report_begun k n (length b);
      cache = c;
      input = input;
      output = b;
      turns = t ∷ w.turns;
    }))
    none
    (ends_keeps had w n k input untold c t x free same came
    (record { ends = inr none; whole = whole }))

pub none_given :
    (had : List PayloadEdition) (w : Service) (n : ℕ) (k : Connection) (input : Bytes)
    (c : Cache) (t : Turn) → Keeps had w → is_free w.connection ≡ true → is_free k ≡ true
    → t.unit ≡ None → t.bytes ≡ []
    → Keeps had (turn_given_up (record w { connection = k; input = input }) n c t)
none_given had w n k input c t x free same which none =
    end_given had w n k input x.untold c t x free same
    (none_came (units_told w.turns) t.unit x.untold w.came x.came which) none (no_unit t which)

-- what nothing comes of
pub rests :
    (had : List PayloadEdition) (w : Service) (c : Cache) → Keeps had w → c ≡ w.cache
    → Keeps had (record w { cache = c })
rests had w c x same = record {
  talk = x.talk;
  all = x.all;
  live = λ o. ap (λ (d : Cache). d.live) same ∙ x.live o;
  untold = x.untold;
  came = x.came;
  waits = x.waits;
  sends = x.sends;
  unsent = x.unsent;
  filled = x.filled;
  heard = x.heard;
}

pub time_keeps :
    (had : List PayloadEdition) (w : Service) (n number : ℕ) (a : Answer) (c : Cache) (t : Turn)
    → Keeps had w → is_free w.connection ≡ true → t.unit ≡ None → WritesTurn had c.version t
    → t.answer ≡ a → AfterTime w.cache a c → Keeps had (turn_begun a w n number c t)
time_keeps had w n number answers.Wait c t x free which written is after = rests had w c x after
time_keeps had w n number answers.Notify c t x free which written is after =
    begins_keeps had w n number w.connection w.input c t x free free
    (none_came (units_told w.turns) t.unit w.input w.came
    (x.came ∙ ap (λ (l : Bytes). concat (units_told w.turns) ++ l) (x.waits r.serving)) which)
    (record {
      written = written_then had c.version t written;
      is = inr (record { unasked = which; notify = is });
    })
    after (x.filled r.serving) (x.heard r.serving)
  where
    r : IsReady w
    r = ready had w x free
time_keeps had w n number (answers.End y) c t x free which written is after =
    end_keeps had w n number w.connection w.input (answers.End y) c t x free free which written is
    after
time_keeps had w n number answers.All c t x free which written is after = absurd after
time_keeps had w n number (answers.Changes since) c t x free which written is after = absurd after
time_keeps had w n number answers.Reset c t x free which written is after = absurd after
time_keeps had w n number answers.NoData c t x free which written is after = absurd after

pub tick_keeps :
    (had : List PayloadEdition) (w : Service) (n begins number : ℕ) (c : Cache) (t : Turn)
    (w' : Service) → Keeps had w → is_free w.connection ≡ true
    → IsCacheStep w.cache n t.present.name events.Tick t.answer c → t.unit ≡ None
    → Does had w begins number c t w' → Keeps had w'
tick_keeps had w n begins number c t _ x free step which (as_answered written) =
    time_keeps had w begins number t.answer c t x free which written refl
    (after_tick w.cache n t.present.name t.answer c (ready had w x free).live step.rule)
tick_keeps had w n begins number c t _ x free step which (gives_up none) =
    none_given had w begins w.connection w.input c t x free free which none

-- at the end of the connection, or where there are too many
pub stop_keeps :
    (had : List PayloadEdition) (w : Service) (begins number : ℕ) (c : Cache) (t : Turn)
    (w' : Service) → Keeps had w → is_free w.connection ≡ true → Ends t.answer → t.unit ≡ None
    → Does had w begins number c t w' → Keeps had w'
stop_keeps had w begins number c t _ x free ends which (as_answered written) =
    end_keeps had w begins number w.connection w.input t.answer c t x free free which written refl
    ends
stop_keeps had w begins number c t _ x free ends which (gives_up none) =
    none_given had w begins w.connection w.input c t x free free which none

pub told_keeps :
    (had : List PayloadEdition) (w : Service) (asked n begins number : ℕ) (p : Present)
    (e : CacheEvent) (t : Turn) (c : Cache) (w' : Service) → Keeps had w
    → IsToldNext (next_at w.connection asked w.cache p number) e
    → IsCacheStep w.cache n t.present.name e t.answer c → t.unit ≡ None
    → Does had w begins number c t w' → Keeps had w'
told_keeps had w asked n begins number p events.Tick t c w' x is step which does =
    tick_keeps had w n begins number c t w' x
    (told_free w.connection asked number w.cache p nexts.Tick refl is) step which does
told_keeps had w asked n begins number p events.Lost t c w' x is step which does =
    let free = told_free w.connection asked number w.cache p nexts.Lose refl is in
    stop_keeps had w begins number c t w' x free
    (after_lost w.cache n t.present.name t.answer c (ready had w x free).live step.rule) which does
told_keeps had w asked n begins number p events.Full t c w' x is step which does = absurd is
told_keeps had w asked n begins number p (events.Came u kept) t c w' x is step which does =
    absurd is
told_keeps had w asked n begins number p (events.Faulty f) t c w' x is step which does = absurd is

-- no whole unit has come
pub awaits_keeps :
    (had : List PayloadEdition) (w : Service) (n begins number : ℕ) (kept : List ℕ) (a : Answer)
    (c : Cache) (t : Turn) → Keeps had w
    → HearsRouter w.cache n t.present.name kept w.input w.connection.closed served.Awaits c
    → a ≡ answers.Wait → Keeps had (turn_begun a (takes w n 0) begins number c t)
awaits_keeps had w n begins number kept a c t x y is =
    subst (λ b. Keeps had (turn_begun b (takes w n 0) begins number c t)) (sym is) (record {
      talk = x.talk;
      all = x.all;
      live = λ o. ap (λ (d : Cache). d.live) y.same ∙ x.live o;
      untold = x.untold;
      came = x.came;
      waits = x.waits;
      sends = x.sends;
      unsent = x.unsent;
      filled = x.filled;
      heard = λ o f units later whole parts.
          (hears_asked w.cache n t.present.name kept units w.input later w.connection.closed
          served.Awaits c whole parts y).0;
    })

pub heard_keeps :
    (had : List PayloadEdition) (w : Service) (n begins number : ℕ) (kept : List ℕ) (s : Served)
    (t : Turn) (c : Cache) (w' : Service) → Keeps had w → is_free w.connection ≡ true
    → HearsRouter w.cache n t.present.name kept w.input w.connection.closed s c
    → t.answer ≡ served_answer s → t.unit ≡ served_unit s w.input
    → Does had (takes w n (served_size s)) begins number c t w' → Keeps had w'
heard_keeps had w n begins number kept served.Awaits t c _ x free y is which
    (as_answered written) = awaits_keeps had w n begins number kept t.answer c t x y is
heard_keeps had w n begins number kept served.Awaits t c _ x free y is which
    (gives_up none) =
    none_given had w begins (input_taken w.connection n 0) w.input c t x free free which none
heard_keeps had w n begins number kept (served.Answered size a) t c _ x free y is which
    (as_answered written) =
    unit_keeps had w n begins number size y.head t.answer c t x free y.some y.unit which written
    refl
    (subst (λ b. AfterUnit y.head t.present.name b c) (sym is)
    (after_unit w.cache n t.present.name y.head (is_kept kept y.head.serial) a c
    (ready had w x free).live y.step.rule))
heard_keeps had w n begins number kept (served.Answered size a) t c _ x free y is which
    (gives_up none) =
    end_given had w begins (input_taken w.connection n size) (drop size w.input)
    (drop size w.input) c t x free (free_taken w.connection n size ∙ free)
    (unit_came had w size t x free which) none (is_whole w size y.head t y.unit which)
heard_keeps had w n begins number kept (served.Refused e a) t c _ x free y is which
    (as_answered written) =
    end_keeps had w begins number (input_taken w.connection n 0) w.input t.answer c t x free free
    which written refl
    (subst Ends (sym is)
    (after_fault w.cache n t.present.name (fault_of w.input e) a c (ready had w x free).live
    y.step.rule))
heard_keeps had w n begins number kept (served.Refused e a) t c _ x free y is which
    (gives_up none) =
    none_given had w begins (input_taken w.connection n 0) w.input c t x free free which none
