use Rattle.std.proofs.Common.{◌≡◌, ◌∙◌, Bool, true, false, None, ap, inl, length, refl, subst, sym}
use Rattle.std.specs.Prelude.{if◌then◌else◌, not}
use Rattle.session_client.specs.Calls.{is_data}
use Rattle.session_client.specs.Holding.{IsClient, data_in}
use Rattle.session_client.specs.Makings.{Octets, ShowsMade}
use Rattle.session_client.specs.Tells.{TellsCall, of_nothing}
use Rattle.session_client.specs.Turning.{HasAnswer}
use Rattle.session_client.specs.Words.{IsOfNext}
use Rattle.session_client.specs.declared.next.Todo.TheVariants as todos
use Rattle.session_client.proofs.Calls.{closed_is, opened_is, says_next, says_no_room, says_none}
use Rattle.session_client.proofs.Calls.{second_is}
use Rattle.session_client.proofs.Takes.{takes_none}
use Rattle.session_client.proofs.Words.{hears_other, next_of_answer, next_of_nothing, next_of_turn}
use Rattle.session_client.proofs.client.Client.next.Goals as goal

flipped : (b : Bool) (x y : Octets) → data_in (not b) x y ≡ data_in b y x
flipped true x y = refl
flipped false x y = refl

not_one : (b : Bool) → not b ≡ (if b then not true else true)
not_one true = refl
not_one false = refl

as_is : (b : Bool) → b ≡ (if b then not false else false)
as_is true = refl
as_is false = refl

pub returns-then-not-has_room-clause-told : goal.returns-then-not-has_room-clause-told
returns-then-not-has_room-clause-told c =
    let s = c.args.self.now in
    let first = c.args.first.now in
    let second = c.args.second.now in
    let held = data_in s.second first second in
    let made = data_in s.second second first in (
      None,
      tt,
      (inl refl, refl, refl),
      takes_none c.args.now s.router s.holding s.kept s.filled s.shown c.args.input.now held,
      next_of_nothing c.args.now s c.args.input.now held (length c.args.output.now)
          (length c.args.index.now) made made of_nothing
          (c.has_room.ensures.no c.if-not-has_room.true) tt,
    )

pub returns-in_default-clause-told : goal.returns-in_default-clause-told
returns-in_default-clause-told c =
    let s = c.args.self.now in
    let x = c.go_on in
    let input = c.args.input.now in
    let first = c.args.first.now in
    let second = c.args.second.now in
    let held = data_in s.second first second in
    let made = data_in s.second second first in
    let room = length c.args.output.now in
    let places = length c.args.index.now in
    let t = x.ensures.told held in
    subst (λ b. TellsCall (IsOfNext c.args.now s input held room places made made) x.result
    c.args.now s input held x.new.self x.new.input (data_in b first second) c.args.output.now
    x.new.output) (sym x.ensures.second) (
      t.0,
      t.1,
      t.2,
      t.3,
      next_of_turn c.args.now s input held room places made made t.3.word
          (c.has_room.ensures.yes c.if-not-has_room.false)
          (hears_other s.holding c.in_default.not-Answer) t.4,
    )

pub returns-then-self-clause-told : goal.returns-then-self-clause-told
returns-then-self-clause-told c =
    let s = c.args.self.now in
    let now = c.args.now in
    let x = c.settle-todo in
    let input = c.args.input.now in
    let first = c.args.first.now in
    let second = c.args.second.now in
    let out = c.args.output.now in
    let room = length out in
    let places = length c.args.index.now in
    let t = x.ensures.told in
    subst (λ b. TellsCall (IsOfNext now s input (data_in b first second) room places
    (data_in b second first) (data_in b second x.new.made)) x.result.0 now s input
    (data_in b first second) x.new.self x.new.input (data_in (not x.result.1) x.new.made second)
    out x.new.output) (sym c.if-self.true)
    (subst (λ d. TellsCall (IsOfNext now s input second room places first x.new.made) x.result.0
    now s input second x.new.self x.new.input d out x.new.output)
    (sym (flipped x.result.1 x.new.made second)) (
      t.0,
      t.1,
      t.2,
      t.3,
      next_of_answer now s input second room places first x.new.made t.3.word
          (c.has_room.ensures.yes c.if-not-has_room.false)
          (subst HasAnswer (sym c.in-Answer.is) tt) t.4,
    ))

pub returns-else-self-clause-told : goal.returns-else-self-clause-told
returns-else-self-clause-told c =
    let s = c.args.self.now in
    let now = c.args.now in
    let x = c.settle-todo-else-self in
    let input = c.args.input.now in
    let first = c.args.first.now in
    let second = c.args.second.now in
    let out = c.args.output.now in
    let room = length out in
    let places = length c.args.index.now in
    let t = x.ensures.told in
    subst (λ b. TellsCall (IsOfNext now s input (data_in b first second) room places
    (data_in b second first) (data_in b x.new.made first)) x.result.0 now s input
    (data_in b first second) x.new.self x.new.input (data_in x.result.1 first x.new.made) out
    x.new.output) (sym c.if-self.false) (
      t.0,
      t.1,
      t.2,
      t.3,
      next_of_answer now s input first room places second x.new.made t.3.word
          (c.has_room.ensures.yes c.if-not-has_room.false)
          (subst HasAnswer (sym c.in-Answer.is) tt) t.4,
    )

pub returns-then-not-has_room-clause-opened : goal.returns-then-not-has_room-clause-opened
returns-then-not-has_room-clause-opened c =
    let s = c.args.self.now in
    let room = length c.args.output.now in
    sym (opened_is s room c.args.now (todos.OutputRoom c.saturating_add.result) false
    (says_no_room s room (c.has_room.ensures.no c.if-not-has_room.true)))

pub returns-then-not-has_room-clause-closed : goal.returns-then-not-has_room-clause-closed
returns-then-not-has_room-clause-closed c =
    let s = c.args.self.now in
    let room = length c.args.output.now in
    sym (closed_is s room c.args.now (todos.OutputRoom c.saturating_add.result) false
    (says_no_room s room (c.has_room.ensures.no c.if-not-has_room.true)) c.args.input.now)

pub returns-in_default-clause-opened : goal.returns-in_default-clause-opened
returns-in_default-clause-opened c =
    let s = c.args.self.now in
    let room = length c.args.output.now in
    let x = c.go_on in
    x.ensures.opened
    ∙ sym (opened_is s room c.args.now x.result true
    (says_next s room (c.has_room.ensures.yes c.if-not-has_room.false)
    (hears_other s.holding c.in_default.not-Answer)))

pub returns-in_default-clause-closed : goal.returns-in_default-clause-closed
returns-in_default-clause-closed c =
    let s = c.args.self.now in
    let room = length c.args.output.now in
    let x = c.go_on in
    x.ensures.closed
    ∙ sym (closed_is s room c.args.now x.result true
    (says_next s room (c.has_room.ensures.yes c.if-not-has_room.false)
    (hears_other s.holding c.in_default.not-Answer)) c.args.input.now)

pub returns-then-self-clause-opened : goal.returns-then-self-clause-opened
returns-then-self-clause-opened c =
    let s = c.args.self.now in
    let room = length c.args.output.now in
    let x = c.settle-todo in
    x.ensures.opened
    ∙ sym (opened_is s room c.args.now x.result.0 false
    (says_none s room (subst HasAnswer (sym c.in-Answer.is) tt)))

pub returns-then-self-clause-closed : goal.returns-then-self-clause-closed
returns-then-self-clause-closed c =
    let s = c.args.self.now in
    let room = length c.args.output.now in
    let x = c.settle-todo in
    x.ensures.closed
    ∙ sym (closed_is s room c.args.now x.result.0 false
    (says_none s room (subst HasAnswer (sym c.in-Answer.is) tt)) c.args.input.now)

pub returns-else-self-clause-opened : goal.returns-else-self-clause-opened
returns-else-self-clause-opened c =
    let s = c.args.self.now in
    let room = length c.args.output.now in
    let x = c.settle-todo-else-self in
    x.ensures.opened
    ∙ sym (opened_is s room c.args.now x.result.0 false
    (says_none s room (subst HasAnswer (sym c.in-Answer.is) tt)))

pub returns-else-self-clause-closed : goal.returns-else-self-clause-closed
returns-else-self-clause-closed c =
    let s = c.args.self.now in
    let room = length c.args.output.now in
    let x = c.settle-todo-else-self in
    x.ensures.closed
    ∙ sym (closed_is s room c.args.now x.result.0 false
    (says_none s room (subst HasAnswer (sym c.in-Answer.is) tt)) c.args.input.now)

pub returns-in_default-clause-second : goal.returns-in_default-clause-second
returns-in_default-clause-second c =
    let s = c.args.self.now in
    let x = c.go_on in
    x.ensures.second
    ∙ sym (second_is x.result s.second
    ∙ ap (λ b. if b then not s.second else s.second) x.ensures.plain)

pub returns-then-self-clause-second : goal.returns-then-self-clause-second
returns-then-self-clause-second c =
    let s = c.args.self.now in
    let x = c.settle-todo in
    ap not x.ensures.turned
    ∙ subst (λ b. not (is_data x.result.0) ≡ (if is_data x.result.0 then not b else b))
    (sym c.if-self.true) (not_one (is_data x.result.0)) ∙ sym (second_is x.result.0 s.second)

pub returns-else-self-clause-second : goal.returns-else-self-clause-second
returns-else-self-clause-second c =
    let s = c.args.self.now in
    let x = c.settle-todo-else-self in
    x.ensures.turned
    ∙ subst (λ b. is_data x.result.0 ≡ (if is_data x.result.0 then not b else b))
    (sym c.if-self.false) (as_is (is_data x.result.0)) ∙ sym (second_is x.result.0 s.second)

pub returns-then-self-clause-serves : goal.returns-then-self-clause-serves
returns-then-self-clause-serves c = λ set y.
    let s = c.args.self.now in
    let x = c.settle-todo in
    let first = c.args.first.now in
    let second = c.args.second.now in
    subst (λ d. IsClient set x.new.self x.new.input d) (sym (flipped x.result.1 x.new.made second))
    (x.ensures.serves set
    (subst (λ b. IsClient set s c.args.input.now (data_in b first second)) c.if-self.true y))

pub returns-in_default-clause-whole : goal.returns-in_default-clause-whole
returns-in_default-clause-whole c = λ shows.
    absurd (let e = sym c.go_on.ensures.plain ∙ shows in cc)

pub returns-then-self-clause-whole : goal.returns-then-self-clause-whole
returns-then-self-clause-whole c = λ shows.
    let s = c.args.self.now in
    let x = c.settle-todo in
    let first = c.args.first.now in
    let second = c.args.second.now in
    subst (λ b. ShowsMade s.holding s.kept s.shown c.args.input.now (data_in b first second)
    (length c.args.index.now) (data_in b second first) (data_in b second x.new.made)
    x.new.self.shown) (sym c.if-self.true) (x.ensures.whole shows)

pub returns-else-self-clause-whole : goal.returns-else-self-clause-whole
returns-else-self-clause-whole c = λ shows.
    let s = c.args.self.now in
    let x = c.settle-todo-else-self in
    let first = c.args.first.now in
    let second = c.args.second.now in
    subst (λ b. ShowsMade s.holding s.kept s.shown c.args.input.now (data_in b first second)
    (length c.args.index.now) (data_in b second first) (data_in b x.new.made first)
    x.new.self.shown) (sym c.if-self.false) (x.ensures.whole shows)

pub returns-then-not-has_room-clause-whole : goal.returns-then-not-has_room-clause-whole
returns-then-not-has_room-clause-whole c = λ shows. absurd (let e = shows in cc)
