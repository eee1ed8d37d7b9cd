-- What a group of clients shows are the data of one of them.
use Rattle.std.proofs.Common.{◌≡◌, ◌≢◌, ◌⊎◌, ℕ, Bool, true, false, ◌+◌, Some, None, List, Option}
use Rattle.std.proofs.Common.{refl, ap, sym, subst, ◌∙◌, inl, inr, arith}
use Rattle.std.specs.Prelude.{if◌then◌else◌, nat_lt, ◌==◌}
use Rattle.std.proofs.lemmas.Bool.{cases_eq}
use Rattle.std.proofs.lemmas.Bool.Decides.{nat_tests}
use Rattle.session_router.specs.declared.settings.Settings as routers
use Rattle.session_client.specs.Holding.{Fits, IsClient, SameShown, SameThere, ShowsFront}
use Rattle.session_client.specs.Holding.{ShowsWholeAnswer}
use Rattle.session_client.specs.Makings.{Octets}
use Rattle.session_client.specs.declared.client.Client.{Client}
use Rattle.session_client.specs.declared.next.Todo.{Todo}
use Rattle.session_group.specs.declared.event.Event.{Event}
use Rattle.session_group.specs.declared.event.Event.TheVariants as events
use Rattle.session_group.specs.declared.group.Group.{Group}
use Rattle.session_group.specs.declared.settings.Settings.{Settings}
use Rattle.session_group.specs.Groups.{answer, counts, tick_answer}
use Rattle.session_group.specs.Runs.{GroupMoment, IsGroupRun, Listener, Member, ShowsBest}
use Rattle.session_group.specs.Runs.{LeavesNone, begun, failed, hears, left, once_started}
use Rattle.session_group.specs.Runs.{once_stopped, once_told, ticked, told_of}
use Rattle.session_group.specs.Runs.Happened.{time_passed, to_member}
use Rattle.session_group.specs.Runs.IsGroupRun.{group_run_begins, group_run_goes_on}
use Rattle.session_group.specs.Runs.ShowsBest.{none_has, of_best}
use Rattle.session_group_laws.specs.Buffers.{CallsClient, ComesWith, ClientHas, IsMemberClient}
use Rattle.session_group_laws.specs.Buffers.{IsRunOfClients, MovesClient, ShowsDataOfClient}
use Rattle.session_group_laws.specs.Buffers.IsRunOfClients.{client_begins_anew, client_is_moved}
use Rattle.session_group_laws.specs.Buffers.IsRunOfClients.{client_is_silent, client_tells}
use Rattle.session_group_laws.specs.Buffers.IsRunOfClients.{clients_begin, clients_wait}
use Rattle.session_group_laws.specs.Buffers.ShowsDataOfClient.{shows_none, shows_one}
use Rattle.session_group_laws.specs.Members.{MemberClient, todo_tells, with_member}
use Rattle.session_group_laws.proofs.Unchanged.{data_stay}

-- ---- a run of clients is a run of a group

pub is_run : (count : ℕ) (s : Settings) (t : ℕ → routers.Settings) (bytes : ℕ → Octets)
    (ms : List (GroupMoment ℕ)) (g : Group) (c : Listener ℕ) (xs : ℕ → MemberClient) →
    IsRunOfClients count s t bytes ms g c xs → IsGroupRun count s ms g c
is_run count s t bytes _ _ _ _ (clients_begin n g xs new all) = group_run_begins n g new
is_run count s t bytes _ _ _ _ (client_tells m n p d todo e x ms g c xs run calls tells comes) =
    group_run_goes_on n (to_member m e d) ms g c (is_run count s t bytes ms g c xs run)
is_run count s t bytes _ _ _ _ (client_is_silent m p todo x ms g c xs run calls tells) =
    is_run count s t bytes ms g c xs run
is_run count s t bytes _ _ _ _ (client_is_moved m x ms g c xs run moves) =
    is_run count s t bytes ms g c xs run
is_run count s t bytes _ _ _ _ (client_begins_anew m x ms g c xs run none new) =
    is_run count s t bytes ms g c xs run
is_run count s t bytes _ _ _ _ (clients_wait n ms g c xs run) =
    group_run_goes_on n time_passed ms g c (is_run count s t bytes ms g c xs run)

-- ---- what holds of each member, where one of them changed

same_number : (a b : ℕ) → a ≡ b → (a == b) ≡ true
same_number a b is = grind (arith, nat_tests)

other_number : (a b : ℕ) → a ≢ b → (a == b) ≡ false
other_number a b other = grind (arith, nat_tests)

member_self : (xs : ℕ → MemberClient) (m : ℕ) (x : MemberClient) → with_member xs m x m ≡ x
member_self xs m x = rw (same_number m m refl) refl

member_other : (xs : ℕ → MemberClient) (m : ℕ) (x : MemberClient) (i : ℕ) → i ≢ m →
    with_member xs m x i ≡ xs i
member_other xs m x i other = rw (other_number i m other) refl

each : (P : ℕ → MemberClient → Type 0) (xs : ℕ → MemberClient) (m : ℕ) (x : MemberClient) →
    ((i : ℕ) → P i (xs i)) → P m x → (i : ℕ) → P i (with_member xs m x i)
each P xs m x all one i = go (cases_eq i m)
  where
    at_m : P m (with_member xs m x m)
    at_m = subst (λ (y : MemberClient). P m y) (sym (member_self xs m x)) one

    go : (i ≡ m) ⊎ (i ≢ m) → P i (with_member xs m x i)
    go (inl same) = subst (λ (j : ℕ). P j (with_member xs m x j)) (sym same) at_m
    go (inr other) =
        subst (λ (y : MemberClient). P i y) (sym (member_other xs m x i other)) (all i)

-- ---- clients stay clients

abbrev RoomMayChange : Type 0
RoomMayChange =
    (s : routers.Settings) (k : Client) (input input' buffer buffer' : Octets) → Fits k input
    → SameThere k input input' buffer buffer' → IsClient s k input buffer
    → IsClient s k input' buffer'

moves_on : RoomMayChange → (s : routers.Settings) (x x' : MemberClient) → MovesClient x x' →
    IsMemberClient s x → IsMemberClient s x'
moves_on still s x x' moves serves =
    subst (λ (k : Client). IsClient s k x'.input x'.held) (sym moves.client)
    (still s x.client x.input x'.input x.held x'.held moves.fits moves.same serves)

are_clients : (still : RoomMayChange) (count : ℕ) (s : Settings) (t : ℕ → routers.Settings)
    (bytes : ℕ → Octets)
    (ms : List (GroupMoment ℕ)) (g : Group) (c : Listener ℕ) (xs : ℕ → MemberClient) →
    IsRunOfClients count s t bytes ms g c xs → (i : ℕ) → IsMemberClient (t i) (xs i)
are_clients still count s t bytes _ _ _ _ (clients_begin n g xs new all) = all
are_clients still count s t bytes _ _ _ _
    (client_tells m n p d todo e x ms g c xs run calls tells comes) =
    let before = are_clients still count s t bytes ms g c xs run in
    each (λ i y. IsMemberClient (t i) y) xs m x before (calls.serves (t m) (before m))
are_clients still count s t bytes _ _ _ _ (client_is_silent m p todo x ms g c xs run calls tells) =
    let before = are_clients still count s t bytes ms g c xs run in
    each (λ i y. IsMemberClient (t i) y) xs m x before (calls.serves (t m) (before m))
are_clients still count s t bytes _ _ _ _ (client_is_moved m x ms g c xs run moves) =
    let before = are_clients still count s t bytes ms g c xs run in
    each (λ i y. IsMemberClient (t i) y) xs m x before
    (moves_on still (t m) (xs m) x moves (before m))
are_clients still count s t bytes _ _ _ _ (client_begins_anew m x ms g c xs run none new) =
    each (λ i y. IsMemberClient (t i) y) xs m x
    (are_clients still count s t bytes ms g c xs run) new
are_clients still count s t bytes _ _ _ _ (clients_wait n ms g c xs run) =
    are_clients still count s t bytes ms g c xs run

-- ---- a member's data are its client's

abbrev Have : (bytes : ℕ → Octets) → (ℕ → Member ℕ) → (ℕ → MemberClient) → Type 0
Have bytes members xs = (i d : ℕ) → (members i).has ≡ Some d → ClientHas (bytes d) (xs i)

none_some : (d : ℕ) → None ≡ Some d → ⊥
none_some d is = cc

same_some : (d d' : ℕ) → Some d ≡ Some d' → d ≡ d'
same_some d d' is = grind arith

started_has : (n : ℕ) (b : Bool) (x : Member ℕ) (d : ℕ) →
    (if b then begun n else x).has ≡ Some d → x.has ≡ Some d
started_has n true x d is = absurd (none_some d is)
started_has n false x d is = is

stopped_has : (b : Bool) (x : Member ℕ) (d : ℕ) →
    (if b then x else left).has ≡ Some d → x.has ≡ Some d
stopped_has true x d is = is
stopped_has false x d is = absurd (none_some d is)

stops_has : (stops : Option ℕ) (i : ℕ) (x : Member ℕ) (d : ℕ) →
    (once_stopped stops i x).has ≡ Some d → x.has ≡ Some d
stops_has None i x d is = is
stops_has (Some k) i x d is = stopped_has (nat_lt i k) x d is

-- what stops and starts has no data then
obeyed_has : (n : ℕ) (starts stops : Option ℕ) (i : ℕ) (x : Member ℕ) (d : ℕ) →
    (once_started n starts i (once_stopped stops i x)).has ≡ Some d → x.has ≡ Some d
obeyed_has n None stops i x d is = stops_has stops i x d is
obeyed_has n (Some k) stops i x d is =
    stops_has stops i x d (started_has n (i == k) (once_stopped stops i x) d is)

-- at first no member has data
first_has : (a b : Bool) (n d : ℕ) →
    (if a then (if b then begun {Data = ℕ} n else left) else left).has ≡ Some d → ⊥
first_has true true n d is = none_some d is
first_has true false n d is = none_some d is
first_has false true n d is = none_some d is
first_has false false n d is = none_some d is

-- of an event, whose data came from the client y' that y became
told_has : (bytes : ℕ → Octets) (s : Settings) (number : ℕ) (e : Event) (d d' : ℕ)
    (x : Member ℕ) (y y' : MemberClient) → ComesWith e (bytes d) y' →
    (e ≡ events.Fails → ClientHas (bytes d') y → ClientHas (bytes d') y') →
    (x.has ≡ Some d' → ClientHas (bytes d') y) → (once_told s number e d x).has ≡ Some d' →
    ClientHas (bytes d') y'
told_has bytes s number (events.Shows p) d d' x y y' comes stay had is = go (counts s p) is
  where
    go : (b : Bool) →
        (if b then record x { gave_way = false; has = Some d; answered = number }
        else failed None x).has ≡ Some d' →
        ClientHas (bytes d') y'
    go true is = subst (λ (b : ℕ). ClientHas (bytes b) y') (same_some d d' is) comes
    go false is = absurd (none_some d' is)
told_has bytes s number events.Drops d d' x y y' comes stay had is = absurd (none_some d' is)
told_has bytes s number events.Fails d d' x y y' comes stay had is = stay refl (had is)

heard_has : (bytes : ℕ → Octets) (c : Listener ℕ) (e : Event) (d d' : ℕ) (x : Member ℕ)
    (y y' : MemberClient) → (x.runs ≡ false → x.has ≡ None) → ComesWith e (bytes d) y' →
    (e ≡ events.Fails → ClientHas (bytes d') y → ClientHas (bytes d') y') →
    (x.has ≡ Some d' → ClientHas (bytes d') y) → (hears c e d x).has ≡ Some d' →
    ClientHas (bytes d') y'
heard_has bytes c e d d' x y y' none comes stay had is = go x.runs refl is
  where
    go : (b : Bool) → x.runs ≡ b →
        (if b then once_told c.settings (c.events + 1) e d x else x).has ≡ Some d' →
        ClientHas (bytes d') y'
    go true runs is = told_has bytes c.settings (c.events + 1) e d d' x y y' comes stay had is
    go false runs is = absurd (none_some d' (sym (none runs) ∙ is))

module _ (bytes : ℕ → Octets) (c : Listener ℕ) (m : ℕ) (e : Event) (d : ℕ)
    (xs : ℕ → MemberClient) (x : MemberClient) (none : LeavesNone c)
    (comes : ComesWith e (bytes d) x)
    (stay : (b : Octets) → e ≡ events.Fails → ClientHas b (xs m) → ClientHas b x)
    (have : Have bytes c.members xs)
  where
    self_told : told_of c m e d m ≡ hears c e d (c.members m)
    self_told = rw (same_number m m refl) refl

    other_told : (i : ℕ) → i ≢ m → told_of c m e d i ≡ c.members i
    other_told i other = rw (other_number i m other) refl

    at_m : (d' : ℕ) → (told_of c m e d m).has ≡ Some d' →
        ClientHas (bytes d') (with_member xs m x m)
    at_m d' is =
        subst (λ (y : MemberClient). ClientHas (bytes d') y) (sym (member_self xs m x))
        (heard_has bytes c e d d' (c.members m) (xs m) x (none m) comes (stay (bytes d'))
        (have m d') (sym (ap (λ (z : Member ℕ). z.has) self_told) ∙ is))

    pub tells_have : Have bytes (told_of c m e d) (with_member xs m x)
    tells_have i d' is = go (cases_eq i m)
      where
        go : (i ≡ m) ⊎ (i ≢ m) → ClientHas (bytes d') (with_member xs m x i)
        go (inl same) =
            subst (λ (j : ℕ). ClientHas (bytes d') (with_member xs m x j)) (sym same)
            (at_m d' (subst (λ (j : ℕ). (told_of c m e d j).has ≡ Some d') same is))
        go (inr other) =
            subst (λ (y : MemberClient). ClientHas (bytes d') y) (sym (member_other xs m x i other))
            (have i d' (sym (ap (λ (z : Member ℕ). z.has) (other_told i other)) ∙ is))

moves_have : (d : Octets) (x x' : MemberClient) → MovesClient x x' → ClientHas d x → ClientHas d x'
moves_have d x x' moves has =
    subst (λ (k : Client). ShowsFront (Some d) k.shown x'.held) (sym moves.client)
    (go x.client.shown moves.same.shown has)
  where
    go : (n : Option ℕ) → SameShown n x.held x'.held → ShowsFront (Some d) n x.held →
        ShowsFront (Some d) n x'.held
    go None same has = absurd has
    go (Some n) same has = has ∙ same

failure_stays : (s : routers.Settings) (p : ℕ) (todo : Todo) (e : Event) (x x' : MemberClient)
    (d : Octets) → CallsClient x x' todo → todo_tells p todo ≡ Some e → e ≡ events.Fails →
    ClientHas d x → ClientHas d x'
failure_stays s p todo e x x' d calls tells is has =
    data_stay s p todo x x' (Some events.Fails) d calls.calls
    (tells ∙ ap (λ (f : Event). Some f) is) (λ e. cc) (λ e. cc) has

silence_stays : (s : routers.Settings) (p : ℕ) (todo : Todo) (x x' : MemberClient) (d : Octets) →
    CallsClient x x' todo → todo_tells p todo ≡ None → ClientHas d x → ClientHas d x'
silence_stays s p todo x x' d calls tells has =
    data_stay s p todo x x' None d calls.calls tells (λ e. cc) (λ e. cc) has

abbrev LeavesNoneInRuns : Type 0
LeavesNoneInRuns =
    (count : ℕ) (s : Settings) (ms : List (GroupMoment ℕ)) (g : Group) (c : Listener ℕ)
    → IsGroupRun count s ms g c → LeavesNone c

pub all_have : (none : LeavesNoneInRuns) (count : ℕ) (s : Settings) (t : ℕ → routers.Settings)
    (bytes : ℕ → Octets) (ms : List (GroupMoment ℕ)) (g : Group) (c : Listener ℕ)
    (xs : ℕ → MemberClient) → IsRunOfClients count s t bytes ms g c xs → Have bytes c.members xs
all_have none count s t bytes _ _ _ _ (clients_begin n g xs new all) =
    λ i d is. absurd (first_has (i == 0) (nat_lt 0 count) n d is)
all_have none count s t bytes _ _ _ _
    (client_tells m n p d todo e x ms g c xs run calls tells comes) =
    let a = answer g n m e in
    λ i d' is.
    tells_have bytes c m e d xs x (none count s ms g c (is_run count s t bytes ms g c xs run))
    comes (λ b. failure_stays (t m) p todo e (xs m) x b calls tells)
    (all_have none count s t bytes ms g c xs run) i d'
    (obeyed_has n a.starts a.stops i (told_of c m e d i) d' is)
all_have none count s t bytes _ _ _ _ (client_is_silent m p todo x ms g c xs run calls tells) =
    let before = all_have none count s t bytes ms g c xs run in
    each (λ i y. (d : ℕ) → (c.members i).has ≡ Some d → ClientHas (bytes d) y) xs m x before
    (λ d is. silence_stays (t m) p todo (xs m) x (bytes d) calls tells (before m d is))
all_have none count s t bytes _ _ _ _ (client_is_moved m x ms g c xs run moves) =
    let before = all_have none count s t bytes ms g c xs run in
    each (λ i y. (d : ℕ) → (c.members i).has ≡ Some d → ClientHas (bytes d) y) xs m x before
    (λ d is. moves_have (bytes d) (xs m) x moves (before m d is))
all_have none count s t bytes _ _ _ _ (client_begins_anew m x ms g c xs run gone new) =
    each (λ i y. (d : ℕ) → (c.members i).has ≡ Some d → ClientHas (bytes d) y) xs m x
    (all_have none count s t bytes ms g c xs run)
    (λ d is. absurd (none_some d (sym gone ∙ is)))
all_have none count s t bytes _ _ _ _ (clients_wait n ms g c xs run) =
    let a = tick_answer g n in
    λ i d is.
    all_have none count s t bytes ms g c xs run i d
    (obeyed_has n a.starts a.stops i (ticked c n i) d is)

-- ---- what is shown

shows_then : (s : routers.Settings) (d : Octets) (x : MemberClient) → ClientHas d x →
    (x.client.shown ≡ None) ⊎ ShowsWholeAnswer s x.client x.held →
    ShowsWholeAnswer s x.client x.held
shows_then s d x has (inl none) =
    absurd (subst (λ (n : Option ℕ). ShowsFront (Some d) n x.held) none has)
shows_then s d x has (inr whole) = whole

pub shows_data : (still : RoomMayChange) (none : LeavesNoneInRuns)
    (best : (count : ℕ) (s : Settings) (ms : List (GroupMoment ℕ)) (g : Group) (c : Listener ℕ) →
    IsGroupRun count s ms g c → ShowsBest c)
    (whole : (s : routers.Settings) (k : Client) (input buffer : Octets) →
    IsClient s k input buffer → (k.shown ≡ None) ⊎ ShowsWholeAnswer s k buffer)
    (count : ℕ) (s : Settings) (t : ℕ → routers.Settings) (bytes : ℕ → Octets)
    (ms : List (GroupMoment ℕ)) (g : Group) (c : Listener ℕ) (xs : ℕ → MemberClient) →
    IsRunOfClients count s t bytes ms g c xs → ShowsDataOfClient bytes t c xs
shows_data still none best whole count s t bytes ms g c xs run =
    go (best count s ms g c (is_run count s t bytes ms g c xs run))
  where
    go : ShowsBest c → ShowsDataOfClient bytes t c xs
    go (none_has shown gone) = shows_none shown gone
    go (of_best k d shown is) =
        let has = all_have none count s t bytes ms g c xs run k d is.has in
        let x = xs k in
        shows_one k d shown is has
        (shows_then (t k) (bytes d) x has
        (whole (t k) x.client x.input x.held (are_clients still count s t bytes ms g c xs run k)))
