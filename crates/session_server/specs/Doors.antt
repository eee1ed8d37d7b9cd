-- The door of a server: who is served, who is refused, and who has to wait.
use Rattle.std.specs.Prelude.{◌≡◌, ℕ, Bool, false, ◌+◌, ◌-◌, ◌≤◌, ◌&&◌, nat_lt}
use Rattle.std.specs.Prelude.{List, [], ◌∷◌, ◌++◌, length, if◌then◌else◌}
use Rattle.session_server.specs.declared.door.Door.{Door}
use Rattle.session_server.specs.declared.door.Entry.{Entry}
use Rattle.session_server.specs.declared.door.Entry.TheVariants as entries
use Rattle.session_server.specs.declared.settings.ServerSettings.{ServerSettings}

abbrev pub new_door : ServerSettings → Door
new_door s = record {
  most_connections = s.most_connections;
  most_refused = s.most_refused;
  served = 0;
  refused = 0;
}

-- A new connection is served below the limit, where the system has a descriptor beside its own; or
-- else refused, below the limit of those; or else it waits.
abbrev pub entry_at : Door → (spare : Bool) → Entry
entry_at d spare =
    if spare && nat_lt d.served d.most_connections then entries.Serve
    else if nat_lt d.refused d.most_refused then entries.Refuse
    else entries.Wait

-- it is counted as what it got
abbrev pub entered : Door → Entry → Door
entered d entries.Serve = record d { served = d.served + 1 }
entered d entries.Refuse = record d { refused = d.refused + 1 }
entered d entries.Wait = d

-- there is a connection that got this
abbrev pub has_inside : Door → Entry → Bool
has_inside d entries.Serve = nat_lt 0 d.served
has_inside d entries.Refuse = nat_lt 0 d.refused
has_inside d entries.Wait = false

-- one of them was closed, if there is one
abbrev pub once_left : Door → Entry → Door
once_left d entries.Serve = record d { served = d.served - 1 }
once_left d entries.Refuse = record d { refused = d.refused - 1 }
once_left d entries.Wait = d

-- ---- whole runs

-- the open connections after one came and got this
abbrev pub come_in : Entry → List Entry → List Entry
come_in entries.Wait inside = inside
come_in e inside = e ∷ inside

-- a server with this door has these connections open, after whoever came and left
pub data IsHeld (s : ServerSettings) : Door → List Entry → Type 0 where
  is_new : IsHeld s (new_door s) []
  enters :
      (d : Door) (inside : List Entry) (spare : Bool) → IsHeld s d inside
      → IsHeld s (entered d (entry_at d spare)) (come_in (entry_at d spare) inside)
  leaves :
      (d : Door) (before after : List Entry) (e : Entry) → IsHeld s d (before ++ e ∷ after)
      → IsHeld s (once_left d e) (before ++ after)

abbrev pub served_one : Entry → ℕ
served_one entries.Serve = 1
served_one _ = 0

abbrev pub refused_one : Entry → ℕ
refused_one entries.Refuse = 1
refused_one _ = 0

-- how many of these connections are served, and how many refused
abbrev pub count_served : List Entry → ℕ
count_served [] = 0
count_served (e ∷ es) = served_one e + count_served es

abbrev pub count_refused : List Entry → ℕ
count_refused [] = 0
count_refused (e ∷ es) = refused_one e + count_refused es

-- the door has counted these, and they are within the limits
pub record KeepsLimits (s : ServerSettings) (d : Door) (inside : List Entry) : Type 0 where
  pub served : d.served ≡ count_served inside
  pub refused : d.refused ≡ count_refused inside
  pub total : length inside ≡ d.served + d.refused
  pub most_served : d.served ≤ s.most_connections
  pub most_refused : d.refused ≤ s.most_refused
  pub limit_served : d.most_connections ≡ s.most_connections
  pub limit_refused : d.most_refused ≡ s.most_refused
