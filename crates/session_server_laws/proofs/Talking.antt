-- Each run of a connection at its cache answers in order, and loses no query.
use Rattle.std.proofs.Common.{◌≡◌, ◌⊎◌, true, List, [], ◌∷◌, ◌++◌, refl, sym, ap, ◌∙◌, subst}
use Rattle.std.proofs.Common.{Option, Some, None, append_assoc, inl, inr}
use Rattle.std.specs.List.{concat}
use Rattle.session_router.specs.declared.head.Head.{Head}
use Rattle.session_bytes.specs.Heads.{HasHead}
use Rattle.session_bytes.specs.Sending.{AreWhole}
use Rattle.session_bytes.proofs.Sending.{Next as NextUnit, hears_asked, next, whole_left}
use Rattle.session_laws.specs.Editions.{PayloadEdition}
use Rattle.session_laws.specs.Pipes.{Bytes}
use Rattle.session_server.specs.declared.connection.Next.TheVariants as nexts
use Rattle.session_server.specs.declared.settings.ServerSettings.{ServerSettings}
use Rattle.session_server.specs.Paces.{is_serving}
use Rattle.session_server_laws.specs.Services.{ServiceGoes, IsRunOfService, Service, Turn}
use Rattle.session_server_laws.specs.Services.ServiceGoes.{connection_breaks, hears_input}
use Rattle.session_server_laws.specs.Services.ServiceGoes.{reads_bytes, refuses, router_closes}
use Rattle.session_server_laws.specs.Services.ServiceGoes.{sends_piece, tells_event}
use Rattle.session_server_laws.specs.Services.IsRunOfService.{service_begins, service_goes_on}
use Rattle.session_server_laws.specs.Talks.{AllKeepTalking, AnswersInOrder, AnswersQuery, IsTalk}
use Rattle.session_server_laws.specs.Talks.{TellsNews, TellsInOrder, told_unit, units_told}
use Rattle.session_server_laws.specs.Talks.IsTalk.{talk_ended, talk_goes_on}
use Rattle.session_server_laws.proofs.Steps.{empty, some_is, whole_append, told_free, free_open}
use Rattle.session_server_laws.proofs.Steps.{all_heard, after_full}
use Rattle.session_server_laws.proofs.Keeping.{nothing_left, Keeps, all_handed, received_keeps}
use Rattle.session_server_laws.proofs.Keeping.{broken_keeps, closed_keeps, sent_keeps}
use Rattle.session_server_laws.proofs.Telling.{ready, stop_keeps, told_keeps, heard_keeps}

-- ---- runs

goes :
    (had : List PayloadEdition) (w w' : Service) → Keeps had w → ServiceGoes had w w' → Keeps had w'
goes had _ _ x (reads_bytes w n b fits) = received_keeps had w n b x fits
goes had _ _ x (router_closes w) = closed_keeps had w x
goes had _ _ x (connection_breaks w) = broken_keeps had w x
goes had _ _ x (hears_input w asked n begins number p kept s t c w' now y is which does) =
    heard_keeps had w n begins number kept s t c w' x
    (told_free w.connection asked number w.cache p nexts.Hear refl now) y is which does
goes had _ _ x (tells_event w asked n begins number p e t c w' now step which does) =
    told_keeps had w asked n begins number p e t c w' x now step which does
goes had _ _ x (refuses w n begins number t c w' free step which does) =
    stop_keeps had w begins number c t w' x free
    (after_full w.cache n t.present.name t.answer c (ready had w x free).live step.rule) which does
goes had _ _ x (sends_piece w n piece rest is) = sent_keeps had w n piece rest x is

keeps :
    (s : ServerSettings) (had : List PayloadEdition) (w : Service) → IsRunOfService s had w
    → Keeps had w
keeps s had _ (service_begins n c new live) = record {
  talk = talk_goes_on [] tt;
  all = λ o. tt;
  live = λ o. live;
  untold = [];
  came = refl;
  waits = λ o. refl;
  sends = (refl, refl);
  unsent = refl;
  filled = λ o. refl;
  heard = λ o f. nothing_left;
}
keeps s had _ (service_goes_on w w' run step) = goes had w w' (keeps s had w run) step

pub answers_in_order :
    (s : ServerSettings) (had : List PayloadEdition) (w : Service) → IsRunOfService s had w
    → AnswersInOrder had w
answers_in_order s had w run =
    let x = keeps s had w run in
    record {
      talk = x.talk;
      goes_on = x.all;
      sends = x.sends;
      sent = λ none.
          all_handed w.turns w.handed w.output x.sends (empty w.output (sym x.unsent ∙ none));
      untold = x.untold;
      came = x.came;
      waits = x.waits;
    }

-- ---- the units that a router sends

record Parts (units told : List Bytes) (later : Bytes) : Type 0 where
  pub left : List Bytes
  pub parts : units ≡ told ++ left
  pub rest : concat left ≡ later

left_whole : (u : Bytes) (us units : List Bytes) → units ≡ u ∷ us → AreWhole units → AreWhole us
left_whole u us units is whole = (subst AreWhole is whole).1

parts_of :
    (told units : List Bytes) (later : Bytes) → AreWhole told → AreWhole units
    → concat units ≡ concat told ++ later → Parts units told later
parts_of [] units later told whole is = record { left = units; parts = refl; rest = is }
parts_of (u ∷ us) units later (first, told) whole is =
    let y : NextUnit u units (concat us ++ later) =
    next u first.0 units (concat us ++ later) whole first.1
    (is ∙ append_assoc u (concat us) later) in
    let z : Parts y.others us later =
    parts_of us y.others later told (left_whole u y.others units y.is whole) y.rest in
    record {
      left = z.left;
      parts = y.is ∙ ap (λ (l : List Bytes). u ∷ l) z.parts;
      rest = z.rest;
    }

told_whole_unit : (o : Option Bytes) → ((u : Bytes) → o ≡ Some u → (h : Head) × HasHead u h)
    → AreWhole (told_unit o)
told_whole_unit None f = tt
told_whole_unit (Some u) f = (f u refl, tt)

goes_whole : (had : List PayloadEdition) (t : Turn) → AnswersQuery t ⊎ TellsNews t → (u : Bytes)
    → t.unit ≡ Some u → (h : Head) × HasHead u h
goes_whole had t (inl x) u e =
    (x.head, subst (λ l. HasHead l x.head) (some_is (sym x.told ∙ e)) x.has)
goes_whole had t (inr x) u e = absurd (let f = sym x.unasked ∙ e in cc)

all_whole : (had : List PayloadEdition) (ts : List Turn) → AllKeepTalking had ts
    → AreWhole (units_told ts)
all_whole had [] x = tt
all_whole had (t ∷ ts) (x, xs) =
    whole_append (units_told ts) (told_unit t.unit) (all_whole had ts xs)
    (told_whole_unit t.unit (goes_whole had t x.is))

told_whole : (had : List PayloadEdition) (ts : List Turn) → IsTalk had ts
    → AreWhole (units_told ts)
told_whole had _ (talk_goes_on ts x) = all_whole had ts x
told_whole had _ (talk_ended t ts x ends) =
    whole_append (units_told ts) (told_unit t.unit) (all_whole had ts x)
    (told_whole_unit t.unit ends.whole)

pub tells_in_order :
    (s : ServerSettings) (had : List PayloadEdition) (w : Service) (units : List Bytes)
    (later : Bytes) → IsRunOfService s had w → AreWhole units → concat units ≡ w.came ++ later
    → TellsInOrder units w
tells_in_order s had w units later run whole is = record {
  left = y.left;
  parts = y.parts;
  told = λ n number p free other.
      let o = free_open (is_serving w.connection.phase) w.connection.unsent free in
      x.heard o (all_heard w.connection.phase w.connection n number w.cache p free other) y.left
      later left_whole_too (left_is o);
  hears = λ n p kept s after free heard.
      let o = free_open (is_serving w.connection.phase) w.connection.unsent free in
      hears_asked w.cache n p kept y.left w.input later w.connection.closed s after left_whole_too
      (left_is o) heard;
}
  where
    x : Keeps had w
    x = keeps s had w run

    y : Parts units (units_told w.turns) (x.untold ++ later)
    y = parts_of (units_told w.turns) units (x.untold ++ later) (told_whole had w.turns x.talk)
        whole
        (is ∙ ap (λ (l : Bytes). l ++ later) x.came
        ∙ append_assoc (concat (units_told w.turns)) x.untold later)

    left_whole_too : AreWhole y.left
    left_whole_too = whole_left (units_told w.turns) y.left (subst AreWhole y.parts whole)

    left_is : is_serving w.connection.phase ≡ true → concat y.left ≡ w.input ++ later
    left_is o = y.rest ∙ ap (λ (l : Bytes). l ++ later) (x.waits o)
