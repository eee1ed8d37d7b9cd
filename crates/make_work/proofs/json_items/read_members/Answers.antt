use Rattle.std.proofs.Common.{◌≡◌, ◌∷◌, ◌||◌, [], ◌++◌, None, Some, ap, refl}
use Rattle.std.proofs.Common.{subst, arith}
use Rattle.std.specs.List.{list_any}
use Rattle.json.specs.Json.{read_key, value}
use Rattle.json.proofs.Grammar.{read_key-shorter}
use Rattle.make_work.specs.JsonPayloads.{ArePayloadsOfEach, AreTopPayloads, is_array}
use Rattle.make_work.specs.MakeWords.{ignored_by_words}
use Rattle.make_work.specs.PrivateJson.{AddsPayloads}
use Rattle.make_work.proofs.JsonReading.{any_more, member_refused}
use Rattle.make_work.proofs.JsonSoFar.{both, each_more, nothing}
use Rattle.make_work.proofs.JsonTokens.{members_done, members_here, members_next, members_none}
use Rattle.make_work.proofs.JsonTokens.{members_start, value_shorter}
use Rattle.make_work.proofs.json_items.read_members.Goals as goal

pub loop-name-init : goal.loop-name-init
loop-name-init c = ([], members_start _ _, nothing _ _ refl, refl)

pub loop-name-smaller : goal.loop-name-smaller
loop-name-smaller c =
    let l = c.loop-name in
    let name = c.in-Ok-Some.name.now in
    let named = c.next_key.new.self in
    let key : read_key l.reader ≡ Some (Some name, named) = grind arith in
    let less = read_key-shorter l.reader (Some name) named key in
    let lesser = value_shorter 127 _ _ _ c.in-Ok.ensures.1 in
    omega (arith, less, lesser)

pub loop-name-preserved : goal.loop-name-preserved
loop-name-preserved c =
    let l = c.loop-name in
    let ignored = ignored_by_words c.args.words.now in
    let done = l.invariant.0 in
    let name = c.in-Ok-Some.name.now in
    let named = c.next_key.new.self in
    let key : read_key l.reader ≡ Some (Some name, named) = grind arith in
    let read = c.in-Ok.ensures in (
      done ++ (name, read.0) ∷ [],
      members_next (value 127) _ l.reader done l.invariant.1 name named _ read.0 key read.1
          (value_shorter 127 _ _ _ read.1),
      both _ _ _ _ _ _
          (λ ps qs h k. each_more (AreTopPayloads ignored) done ps (name, read.0) qs h k)
          l.invariant.2 read.2,
      any_more (λ m. is_array ignored m.0) done (name, read.0) l.has_array _ l.invariant.3
          (ap (λ b. l.has_array || b) c.is_array-has_array.ensures),
    )

pub returns-in-Ok-None : goal.returns-in-Ok-None
returns-in-Ok-None c =
    let l = c.loop-name in
    let ignored = ignored_by_words c.args.words.now in
    let closed : read_key l.reader ≡ Some (None, c.next_key.new.self) = grind arith in
    let all = members_done (value 127) _ l.reader l.invariant.0 l.invariant.1 _ closed in (
      all.0,
      all.1,
      (
        subst (λ ms. AddsPayloads (ArePayloadsOfEach (AreTopPayloads ignored) ms)
            c.args.gathering.now l.gathering) all.2 l.invariant.2,
        subst (λ ms. l.has_array ≡ list_any (λ m. is_array ignored m.0) ms) all.2 l.invariant.3,
      ),
    )

pub returns-in-Err : goal.returns-in-Err
returns-in-Err c ms rest e =
    let l = c.loop-name in
    members_none (value 127) _ l.reader l.invariant.0 l.invariant.1 _ ms rest
    c.in-Err.ensures.value e

pub returns-in-Err-read_member : goal.returns-in-Err-read_member
returns-in-Err-read_member c ms rest e =
    let l = c.loop-name in
    let name = c.in-Ok-Some.name.now in
    let named = c.next_key.new.self in
    let key : read_key l.reader ≡ Some (Some name, named) = grind arith in
    member_refused (ignored_by_words c.args.words.now) name named l.invariant.0 _ _ _
    l.invariant.2.payloads
    (members_here (value 127) _ l.reader l.invariant.0 l.invariant.1 name named ms rest key e)
    c.in-Err-read_member.ensures
