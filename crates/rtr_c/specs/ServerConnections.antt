-- The struct of C as a connection of a server (this library's own).
use Rattle.std.specs.Prelude.{ℕ, ◌==◌, Option, Some, None, if◌then◌else◌}
use Rattle.session_server.specs.declared.connection.Connection.{Connection}
use Rattle.session_server.specs.declared.connection.Cut.{Cut}
use Rattle.session_server.specs.declared.connection.Cut.TheVariants as cuts
use Rattle.session_server.specs.declared.connection.Next.{Next}
use Rattle.session_server.specs.declared.connection.Next.TheVariants as nexts
use Rattle.session_server.specs.declared.connection.Phase.{Phase}
use Rattle.session_server.specs.declared.connection.Phase.TheVariants as phases
use Rattle.rtr_c.specs.Servers.{server_settings_of}
use Rattle.rtr_c.specs.declared.connection_calls.RtrConnection.{RtrConnection}

abbrev pub numbered_state : ℕ → Phase
numbered_state n =
    if n == 0 then phases.Open
    else if n == 1 then phases.Ending
    else phases.Over

abbrev pub state_number : Phase → ℕ
state_number phases.Open = 0
state_number phases.Ending = 1
state_number phases.Over = 2

abbrev pub connection_of : RtrConnection → Connection
connection_of k = record {
  settings = server_settings_of k.settings;
  phase = numbered_state k.state;
  filled = k.filled;
  begun = k.begun;
  fresh = k.fresh;
  closed = k.closed;
  unsent = k.unsent;
  taken = k.taken;
  until = k.until;
  number = k.number;
}

abbrev pub step_number : Next → ℕ
step_number nexts.Wait = 0
step_number nexts.Hear = 1
step_number nexts.Tick = 2
step_number nexts.Lose = 3
step_number nexts.Send = 4
step_number nexts.Finish = 5
step_number (nexts.Close cut) = 6

abbrev pub cut_told : Next → Option Cut
cut_told (nexts.Close cut) = cut
cut_told next = None

abbrev pub cut_number : Option Cut → ℕ
cut_number None = 0
cut_number (Some cuts.Slow) = 1
cut_number (Some cuts.NewSession) = 2
cut_number (Some cuts.Behind) = 3
