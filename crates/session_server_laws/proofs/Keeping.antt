-- What stays while an answer or the end begins, and bytes come and are sent.
use Rattle.std.proofs.Common.{◌≡◌, ℕ, Bool, true, false, ◌+◌, ◌-◌, ◌^◌, ◌<◌, ◌||◌, ◌==◌, List, []}
use Rattle.std.proofs.Common.{◌∷◌, ◌++◌, length, not, min, nat_lt, if◌then◌else◌, refl, sym, ap}
use Rattle.std.proofs.Common.{◌∙◌, subst, arith, append-nil, append_assoc}
use Rattle.std.specs.List.{concat}
use Rattle.std.proofs.lemmas.Bool.Decides.{nat_tests}
use Rattle.std.proofs.lemmas.List.{length-append}
use Rattle.session_cache.specs.declared.cache.Cache.{Cache}
use Rattle.session_bytes.specs.Sending.{AreWhole, IsLessThanFirst}
use Rattle.unit_any.proofs.Wholes.{any_whole}
use Rattle.session_laws.specs.Editions.{PayloadEdition}
use Rattle.session_laws.specs.Pipes.{Bytes}
use Rattle.session_server.specs.declared.connection.Connection.{Connection}
use Rattle.session_server.specs.declared.connection.Phase.TheVariants as phases
use Rattle.session_server.specs.Paces.{answered, broken_off, closed_by, is_free, is_serving, later}
use Rattle.session_server.specs.Paces.{report_begun, sent}
use Rattle.session_server_laws.specs.Services.{Service, Turn, bytes_read}
use Rattle.session_server_laws.specs.Talks.{AllKeepTalking, EndsService, KeepsTalking, IsTalk}
use Rattle.session_server_laws.specs.Talks.{SendsInOrder, answers_to, units_told}
use Rattle.session_server_laws.specs.Talks.IsTalk.{talk_ended, talk_goes_on}
use Rattle.session_server_laws.proofs.Steps.{empty, front_empty, back_empty, free_open, free_sent}

-- ---- what stays

-- of any units that were sent, the input has no whole one
abbrev pub HasNoUnit : Bytes → Type 0
HasNoUnit input =
    (units : List Bytes) (later : Bytes) → AreWhole units → concat units ≡ input ++ later
    → IsLessThanFirst units input

pub nothing_left : HasNoUnit []
nothing_left [] later whole is = refl
nothing_left (u ∷ us) later whole is =
    let size = (any_whole u whole.0.1.fields whole.0.1.has).header in omega (arith, size)

pub record Keeps (had : List PayloadEdition) (w : Service) : Type 0 where
  pub talk : IsTalk had w.turns
  pub all : is_serving w.connection.phase ≡ true → AllKeepTalking had w.turns
  pub live : is_serving w.connection.phase ≡ true → w.cache.live ≡ true
  pub untold : Bytes
  pub came : w.came ≡ concat (units_told w.turns) ++ untold
  pub waits : is_serving w.connection.phase ≡ true → untold ≡ w.input
  pub sends : SendsInOrder w.turns w.handed w.output
  pub unsent : w.connection.unsent ≡ length w.output
  pub filled : is_serving w.connection.phase ≡ true → w.connection.filled ≡ length w.input
  pub heard :
      is_serving w.connection.phase ≡ true → w.connection.fresh ≡ false → HasNoUnit w.input

-- ---- an answer begins

pub all_handed :
    (ts : List Turn) (handed output : Bytes) → SendsInOrder ts handed output → output ≡ []
    → handed ≡ answers_to ts
all_handed [] handed output x none = x.0
all_handed (t ∷ ts) handed output (front, is, bytes) none =
    is ∙ ap (λ (l : Bytes). answers_to ts ++ l)
    (sym (bytes ∙ ap (λ (l : Bytes). front ++ l) none ∙ append-nil front))

pub sends_next :
    (t : Turn) (ts : List Turn) (handed output : Bytes) → SendsInOrder ts handed output
    → output ≡ [] → SendsInOrder (t ∷ ts) handed t.bytes
sends_next t ts handed output x none =
    ([], all_handed ts handed output x none ∙ sym (append-nil (answers_to ts)), refl)

pub free_output :
    (had : List PayloadEdition) (w : Service) → Keeps had w → is_free w.connection ≡ true
    → w.output ≡ []
free_output had w x free =
    empty w.output
    (sym x.unsent ∙ free_sent (is_serving w.connection.phase) w.connection.unsent free)

pub chosen : (b : Bool) (x y : Connection) → b ≡ true → (if b then x else y) ≡ x
chosen true x y e = refl
chosen false x y e = absurd cc

-- What is there after an answer began, of a connection that took some input before.
abbrev pub with_answer : Service → Connection → Bytes → Cache → Turn → Service
with_answer w k input c t = record w {
  connection = k;
  cache = c;
  input = input;
  output = t.bytes;
  turns = t ∷ w.turns;
}

pub begins_keeps :
    (had : List PayloadEdition) (w : Service) (n number : ℕ) (k : Connection) (input : Bytes)
    (c : Cache) (t : Turn) → Keeps had w → is_free w.connection ≡ true → is_free k ≡ true
    → w.came ≡ concat (units_told (t ∷ w.turns)) ++ input → KeepsTalking had t → c.live ≡ true
    → k.filled ≡ length input → (k.fresh ≡ false → HasNoUnit input)
    → Keeps had (with_answer w (answered k n (length t.bytes) number) input c t)
begins_keeps had w n number k input c t x free same came goes live filled heard =
    subst (λ (after : Connection). Keeps had (with_answer w after input c t))
    (sym (chosen (is_free k) next_one k same)) kept
  where
    next_one : Connection
    next_one = record k {
      unsent = length t.bytes;
      taken = n;
      until = later n k.settings.response_limit;
      number = number;
    }

    all : AllKeepTalking had (t ∷ w.turns)
    all = (goes, x.all (free_open (is_serving w.connection.phase) w.connection.unsent free))

    kept : Keeps had (with_answer w next_one input c t)
    kept = record {
      talk = talk_goes_on (t ∷ w.turns) all;
      all = λ o. all;
      live = λ o. live;
      untold = input;
      came = came;
      waits = λ o. refl;
      sends = sends_next t w.turns w.handed w.output x.sends (free_output had w x free);
      unsent = refl;
      filled = λ o. filled;
      heard = λ o. heard;
    }

pub has_closed : (b : Bool) → is_serving (if b then phases.Over else phases.Ending) ≡ false
has_closed true = refl
has_closed false = refl

pub ends_keeps :
    (had : List PayloadEdition) (w : Service) (n : ℕ) (k : Connection) (input untold : Bytes)
    (c : Cache) (t : Turn) → Keeps had w → is_free w.connection ≡ true → is_free k ≡ true
    → w.came ≡ concat (units_told (t ∷ w.turns)) ++ untold → EndsService had t
    → Keeps had (with_answer w (report_begun k n (length t.bytes)) input c t)
ends_keeps had w n k input untold c t x free same came ends =
    subst (λ (after : Connection). Keeps had (with_answer w after input c t))
    (sym (chosen (is_free k) next_one k same)) kept
  where
    next_one : Connection
    next_one = record k {
      phase = if length t.bytes == 0 then phases.Over else phases.Ending;
      unsent = length t.bytes;
      taken = n;
      until = later n k.settings.report_limit;
    }

    closed : is_serving (if length t.bytes == 0 then phases.Over else phases.Ending) ≡ false
    closed = has_closed (length t.bytes == 0)

    kept : Keeps had (with_answer w next_one input c t)
    kept = record {
      talk = talk_ended t w.turns
          (x.all (free_open (is_serving w.connection.phase) w.connection.unsent free)) ends;
      all = λ o. absurd (let e = closed in cc);
      live = λ o. absurd (let e = closed in cc);
      untold = untold;
      came = came;
      waits = λ o. absurd (let e = closed in cc);
      sends = sends_next t w.turns w.handed w.output x.sends (free_output had w x free);
      unsent = refl;
      filled = λ o. absurd (let e = closed in cc);
      heard = λ o. absurd (let e = closed in cc);
    }

-- ---- bytes come, and are sent

pub is_zero : (n : ℕ) → (n == 0) ≡ true → n ≡ 0
is_zero n p = grind (arith, nat_tests)

pub more_filled :
    (filled input more all : ℕ) → filled ≡ input → all ≡ input + more → input + more < 2 ^ 64
    → min (filled + more) (2 ^ 64 - 1) ≡ all
more_filled filled input more all p q fits = omega (arith, p, q, fits)

pub received_keeps :
    (had : List PayloadEdition) (w : Service) (n : ℕ) (b : Bytes) → Keeps had w
    → length w.input + length b < 2 ^ 64 → Keeps had (bytes_read w n b)
received_keeps had w n b x fits =
    go (is_serving w.connection.phase) (length b == 0) refl refl
  where
    came : w.came ++ b ≡ concat (units_told w.turns) ++ (x.untold ++ b)
    came = ap (λ (l : Bytes). l ++ b) x.came
        ∙ append_assoc (concat (units_told w.turns)) x.untold b

    go : (o z : Bool) → is_serving w.connection.phase ≡ o → (length b == 0) ≡ z
        → Keeps had (record w {
          connection = if z || not o then w.connection else record w.connection {
            filled = min (w.connection.filled + length b) (2 ^ 64 - 1);
            begun = if w.connection.filled == 0 then n else w.connection.begun;
            fresh = true;
          };
          came = w.came ++ b;
          input = if o then w.input ++ b else w.input;
        })
    go false true p q = record {
      talk = x.talk;
      all = x.all;
      live = x.live;
      untold = x.untold ++ b;
      came = came;
      waits = λ o. absurd cc;
      sends = x.sends;
      unsent = x.unsent;
      filled = λ o. absurd cc;
      heard = λ o. absurd cc;
    }
    go false false p q = record {
      talk = x.talk;
      all = x.all;
      live = x.live;
      untold = x.untold ++ b;
      came = came;
      waits = λ o. absurd cc;
      sends = x.sends;
      unsent = x.unsent;
      filled = λ o. absurd cc;
      heard = λ o. absurd cc;
    }
    go true true p q = record {
      talk = x.talk;
      all = x.all;
      live = x.live;
      untold = x.untold ++ b;
      came = came;
      waits = λ o. ap (λ (l : Bytes). l ++ b) (x.waits o);
      sends = x.sends;
      unsent = x.unsent;
      filled = λ o. x.filled o ∙ ap length same;
      heard = λ o f. subst HasNoUnit same (x.heard o f);
    }
      where
        none : b ≡ []
        none = empty b (is_zero (length b) q)

        same : w.input ≡ w.input ++ b
        same = sym (ap (λ (l : Bytes). w.input ++ l) none ∙ append-nil w.input)
    go true false p q = record {
      talk = x.talk;
      all = x.all;
      live = x.live;
      untold = x.untold ++ b;
      came = came;
      waits = λ o. ap (λ (l : Bytes). l ++ b) (x.waits o);
      sends = x.sends;
      unsent = x.unsent;
      filled = λ o.
          more_filled w.connection.filled (length w.input) (length b) (length (w.input ++ b))
          (x.filled o) (length-append w.input b) fits;
      heard = λ o f. absurd cc;
    }

-- the router closed
pub none_filled : (n : ℕ) → nat_lt 0 n ≡ false → n ≡ 0
none_filled n p = grind (arith, nat_tests)

pub closed_keeps :
    (had : List PayloadEdition) (w : Service) → Keeps had w
    → Keeps had (record w { connection = closed_by w.connection })
closed_keeps had w x = record {
  talk = x.talk;
  all = x.all;
  live = x.live;
  untold = x.untold;
  came = x.came;
  waits = x.waits;
  sends = x.sends;
  unsent = x.unsent;
  filled = x.filled;
  heard = λ o f.
      subst HasNoUnit
      (sym (empty w.input (sym (x.filled o) ∙ none_filled w.connection.filled f)))
      nothing_left;
}

-- the connection broke
pub broken_keeps :
    (had : List PayloadEdition) (w : Service) → Keeps had w
    → Keeps had (record w { connection = broken_off w.connection })
broken_keeps had w x = record {
  talk = x.talk;
  all = λ o. absurd cc;
  live = λ o. absurd cc;
  untold = x.untold;
  came = x.came;
  waits = λ o. absurd cc;
  sends = x.sends;
  unsent = x.unsent;
  filled = λ o. absurd cc;
  heard = λ o f. absurd cc;
}

pub sends_more :
    (ts : List Turn) (handed output piece rest : Bytes) → SendsInOrder ts handed output
    → output ≡ piece ++ rest → SendsInOrder ts (handed ++ piece) rest
sends_more [] handed output piece rest x is =
    let none = sym x.1 ∙ is in
    (ap (λ (l : Bytes). l ++ piece) x.0 ∙ front_empty piece rest none, back_empty piece rest none)
sends_more (t ∷ ts) handed output piece rest (front, is, bytes) more = (
  front ++ piece,
  ap (λ (l : Bytes). l ++ piece) is ∙ append_assoc (answers_to ts) front piece,
  bytes ∙ ap (λ (l : Bytes). front ++ l) more ∙ sym (append_assoc front piece rest),
)

pub over : (unsent size : ℕ) → nat_lt unsent size ≡ true → unsent < size
over unsent size p = grind (arith, nat_tests)

pub sent_keeps :
    (had : List PayloadEdition) (w : Service) (n : ℕ) (piece rest : Bytes) → Keeps had w
    → w.output ≡ piece ++ rest
    → Keeps had (record w {
      connection = sent w.connection n (length piece);
      handed = w.handed ++ piece;
      output = rest;
    })
sent_keeps had w n piece rest x is = go (nat_lt w.connection.unsent (length piece)) refl
  where
    size : w.connection.unsent ≡ length piece + length rest
    size = x.unsent ∙ ap length is ∙ length-append piece rest

    go : (b : Bool) → nat_lt w.connection.unsent (length piece) ≡ b
        → Keeps had (record w {
          connection = if b then w.connection else record w.connection {
            unsent = w.connection.unsent - length piece;
            taken = if nat_lt 0 (length piece) then n else w.connection.taken;
            begun = if w.connection.unsent == length piece then n else w.connection.begun;
          };
          handed = w.handed ++ piece;
          output = rest;
        })
    go true p = absurd (let q = over w.connection.unsent (length piece) p in omega (arith, q, size))
    go false p = record {
      talk = x.talk;
      all = x.all;
      live = x.live;
      untold = x.untold;
      came = x.came;
      waits = x.waits;
      sends = sends_more w.turns w.handed w.output piece rest x.sends is;
      unsent = omega (arith, size);
      filled = x.filled;
      heard = x.heard;
    }
