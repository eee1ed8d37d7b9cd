use Rattle.std.proofs.Common.{◌<◌, ◌≤◌, get_or, length, option_map, sym, ap, subst, ◌∙◌}
use Rattle.make_work.specs.PrivateJson.{after_byte}
use Rattle.make_work.proofs.NamesSoFar.{NameSoFar, differs, ended, joined, starts, went_on}
use Rattle.make_work.proofs.json_names.is_plainly.Goals as goal
use Rattle.make_work.proofs.json_names.is_plainly.Goals.{then-not-is_joiner+in-Some}
use Rattle.make_work.proofs.json_names.is_plainly.Goals.{else-not-is_joiner}

pub loop-byte-init : goal.loop-byte-init
loop-byte-init c =
    subst (λ l. NameSoFar c.args.known.now c.args.name.now 0 l)
    (sym c.as_bytes-left.ensures.value) (starts c.args.known.now c.args.name.now)

pub returns-in_default : goal.returns-in_default
returns-in_default c =
    let i = c.loop-byte.byte-index in
    let same = c.as_bytes-byte-items.ensures.value in
    differs c.args.known.now c.args.name.now i _ c.loop-byte.left.now
    (subst (λ t. i < length t) same c.loop-byte-test.true) (ap (λ t. get_or t i 0) same)
    c.loop-byte.invariant (sym c.is_joiner.ensures ∙ c.if-not-is_joiner.true)
    (ap (after_byte c.loop-byte.left.now) (sym c.to_ascii_lowercase.ensures.value)
    ∙ sym c.after_first.ensures ∙ ap (option_map (λ r. r.now)) c.in_default.is)

pub loop-byte-preserved : goal.loop-byte-preserved
loop-byte-preserved c =
    let i = c.loop-byte.byte-index in
    let same = c.as_bytes-byte-items.ensures.value in
    let small = subst (λ t. i < length t) same c.loop-byte-test.true in
    let is = ap (λ t. get_or t i 0) same in
    elim c.if-not-is_joiner.branch [
      | then-not-is_joiner+in-Some w ↦ rw w.left-is
          (went_on c.args.known.now c.args.name.now i _ c.loop-byte.left.now small is
          c.loop-byte.invariant w.in-Some.rest.now
          (sym c.is_joiner.ensures ∙ w.if-not-is_joiner.true)
          (ap (after_byte c.loop-byte.left.now) (sym w.to_ascii_lowercase.ensures.value)
          ∙ sym w.after_first.ensures ∙ ap (option_map (λ r. r.now)) w.in-Some.is))
      | else-not-is_joiner w ↦ rw w.left-is
          (joined c.args.known.now c.args.name.now i _ c.loop-byte.left.now small is
          c.loop-byte.invariant (sym c.is_joiner.ensures ∙ w.if-not-is_joiner.false))
    ]

pub returns : goal.returns
returns c =
    let i = c.loop-byte.byte-index in
    let large = subst (λ t. length t ≤ i) c.as_bytes-byte-items.ensures.value
    c.loop-byte-test.false in
    c.is_empty.ensures
    ∙ ended c.args.known.now c.args.name.now i c.loop-byte.left.now large c.loop-byte.invariant
