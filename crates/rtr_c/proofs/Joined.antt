-- Two calls that normalise, one after the other, are one.
use Rattle.std.proofs.Common.{◌≢◌, ℕ, ◌+◌, List, ◌++◌, take, drop, Result, Ok, Err}
use Rattle.std.proofs.Common.{sym, ap, subst, ◌∙◌}
use Rattle.std.proofs.lemmas.List.{drop-drop}
use Rattle.rtr_wire.specs.Into.{NormalisesInto}
use Rattle.rtr_wire.specs.Sequences.{Output}
use Rattle.rtr_wire.specs.declared.into.IntoFault.{IntoFault}
use Rattle.rtr_wire.specs.declared.into.Progress.{Progress}
use Rattle.rtr_c.specs.Answers.{Tells, CallNormalises, joined_answer, run_wanted}
use Rattle.rtr_c.specs.declared.answer.RtrAnswer.{RtrAnswer}

abbrev both : Progress → Progress → Progress
both p q = record {
  units = p.units + q.units;
  forms = p.forms + q.forms;
  taken = p.taken + q.taken;
  written = p.written + q.written;
}

tells_both : (input : List ℕ) (p q : Progress) (x : IntoFault) (r : Result Unit IntoFault)
    (a b : RtrAnswer) (code other : ℕ) → Tells input p (Err x) a code →
    Tells (drop p.taken input) q r b other → Tells input (both p q) r (joined_answer a b) other
tells_both input p q x r a b code other t u = record {
  units = λ i. t.units i + u.units i;
  forms = λ i. t.forms i + u.forms i;
  taken = λ i. t.taken i + u.taken i;
  written = λ i. t.written i + u.written i;
  wanted = u.wanted ∙ ap (run_wanted r) (drop-drop q.taken p.taken input);
  status = u.status;
  detail = u.detail;
  answered = u.answered;
}

-- what the law `resumed` says
abbrev Resumed : Type 0
Resumed = (what : Output) (first limit : ℕ) (fault : IntoFault) (r : Result Unit IntoFault)
    (input before mid after : List ℕ) (p q : Progress) →
    NormalisesInto what first (Err fault) input before mid p →
    NormalisesInto what limit r (drop p.taken input) (drop p.written mid) after q →
    NormalisesInto what (p.units + limit) r input before (take p.written mid ++ after) (both p q)

pub one_of_two : Resumed → (what : Output) (first limit : ℕ) (input before mid after : List ℕ)
    (a b : RtrAnswer) (code other : ℕ) →
    CallNormalises what first input before mid a code → code ≢ 0 →
    CallNormalises what limit (drop a.taken input) (drop a.written mid) after b other →
    CallNormalises what (a.units + limit) input before (take a.written mid ++ after)
    (joined_answer a b) other
one_of_two resumed what first limit input before mid after a b code other (p, Ok done, f, t) some
    second =
    absurd (some t.answered)
one_of_two resumed what first limit input before mid after a b code other (p, Err x, f, t) some
    second =
    let (q, r, g, u) = subst
    (λ n. CallNormalises what limit (drop n input) (drop a.written mid) after b other)
    t.taken second
    in
    let g : NormalisesInto what limit r (drop p.taken input) (drop p.written mid) after q =
    subst
    (λ n. NormalisesInto what limit r (drop p.taken input) (drop n mid) after q) t.written g in
    let one = resumed what first limit x r input before mid after p q f g in
    let one : NormalisesInto what (a.units + limit) r input before (take p.written mid ++ after)
    (both p q) =
    subst
    (λ n. NormalisesInto what (n + limit) r input before (take p.written mid ++ after) (both p q))
    (sym t.units) one in
    let one : NormalisesInto what (a.units + limit) r input before (take a.written mid ++ after)
    (both p q) =
    subst
    (λ n. NormalisesInto what (a.units + limit) r input before (take n mid ++ after) (both p q))
    (sym t.written) one in
    (both p q, r, one, tells_both input p q x r a b code other t u)
