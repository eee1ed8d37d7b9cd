-- A run that the prover computes, so that the premises of the laws are seen to be met: of two
-- clients the first has the whole answer of its cache, whose changes it makes, and shows a prefix.
use native.Mathlib.Omega.{arith}
use Rattle.std.proofs.Common.{ℕ, false, true, Some, None, List, [], ◌∷◌, refl}
use Rattle.std.specs.Prelude.{replicate}
use Rattle.session_router.specs.declared.event.Action.TheVariants as actions
use Rattle.session_router.specs.declared.event.Event.TheVariants as router_events
use Rattle.session_cache.proofs.ExampleCalm.{adopts_so}
use Rattle.session_cache.proofs.ExampleWorlds.{applying, waiting}
use Rattle.session_bytes.proofs.Examples.{data_bytes}
use Rattle.session_client.specs.Tells.{of_itself}
use Rattle.session_client.specs.declared.client.Client.{Client}
use Rattle.session_client.specs.declared.client.Holding.TheVariants as holdings
use Rattle.session_client.specs.declared.next.Todo.TheVariants as todos
use Rattle.session_client.proofs.Example.{made, was}
use Rattle.session_client.proofs.Runs.{made_is}
use Rattle.session_client.proofs.Takes.{has_made}
use Rattle.session_group.specs.declared.event.Event.TheVariants as events
use Rattle.session_group.specs.declared.group.Group.{Group}
use Rattle.session_group.specs.declared.settings.Settings.{Settings}
use Rattle.session_group.specs.Groups.{answer, group_after}
use Rattle.session_group.specs.Runs.{GroupMoment, IsNewGroup, Listener, caller_after, first_caller}
use Rattle.session_group.specs.Runs.Happened.{to_member}
use Rattle.session_group_laws.specs.Members.{CallsMember, IsRunOfMembers, MemberClient}
use Rattle.session_group_laws.specs.Members.{with_member}
use Rattle.session_group_laws.specs.Members.IsRunOfMembers.{member_tells, members_begin}

-- ---- a group of two

abbrev pub patient : Settings
patient = record { patience = 5000; empty_is_data = false }

abbrev pub pair_group : Group
pair_group = record {
  settings = patient;
  count = 2;
  runs = 1;
  has = replicate 16 false;
  current = false;
  due = 5000;
}

pub pair_is_new : IsNewGroup 2 patient 0 pair_group
pair_is_new = record {
  settings = refl;
  most = omega arith;
  count = refl;
  runs = refl;
  has = refl;
  current = refl;
  due = refl;
}

-- ---- the clients

abbrev holds_answer : Client
holds_answer = record {
  router = applying;
  holding = holdings.Answer 24 false;
  kept = 20;
  filled = 44;
  shown = None;
  unsent = 0;
  second = false;
  opened = false;
  closed = false;
}

abbrev pub before : MemberClient
before = record { client = holds_answer; input = data_bytes; held = [] }

abbrev pub after : MemberClient
after = record {
  client = record holds_answer {
    router = waiting;
    holding = holdings.Nothing;
    kept = 0;
    filled = 0;
    shown = Some 44;
    second = true;
  };
  input = data_bytes;
  held = data_bytes;
}

pub shows_data : CallsMember before after todos.Data
shows_data = record {
  now = 33;
  action = Some actions.Show;
  is_todo = tt;
  takes = record {
    word = of_itself router_events.Applied actions.Show;
    is_told = (refl, tt, adopts_so, refl);
    front = refl;
    size = tt;
    made = made ∷ [];
    were = (was, tt);
    says = λ c h makes x. (
      data_bytes,
      made_is c h 24 false 20 None data_bytes [] data_bytes x.0 makes.0 x.1,
    );
    has = λ c h makes x.
        has_made c h 44 0 data_bytes data_bytes
        (made_is c h 24 false 20 None data_bytes [] data_bytes x.0 makes.0 x.1);
  };
}

-- ---- the run

abbrev pub both : ℕ → MemberClient
both i = before

abbrev pub group₁ : Group
group₁ = group_after pair_group 33 0 (events.Shows 1)

abbrev pub listener₁ : Listener ℕ
listener₁ = caller_after (first_caller 2 patient 0) 33 0 (events.Shows 1) 44
    (answer pair_group 33 0 (events.Shows 1))

abbrev pub history₁ : List (GroupMoment ℕ)
history₁ =
    record {
      now = 33;
      happened = to_member 0 (events.Shows 1) 44;
      answer = answer pair_group 33 0 (events.Shows 1);
    }
    ∷ []

pub run : IsRunOfMembers 2 patient history₁ group₁ listener₁ (with_member both 0 after)
run = member_tells 0 33 1 44 todos.Data (events.Shows 1) after [] pair_group
    (first_caller 2 patient 0) both (members_begin 0 pair_group both pair_is_new) shows_data refl
