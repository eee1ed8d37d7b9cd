use Rattle.session_laws.proofs.Agreeing.{cache_hears, router_hears, units}
use Rattle.session_laws.proofs.laws.bytes_are_units.Goals as goal

pub returns-clause-units : goal.returns-clause-units
returns-clause-units g = λ c w applies run. units c applies w run

pub returns-clause-router : goal.returns-clause-router
returns-clause-router g = λ c w n input later ended t after applies run is heard.
    router_hears c applies w run n input later ended t after is heard

pub returns-clause-cache : goal.returns-clause-cache
returns-clause-cache g = λ c w n kept input later ended s after applies run is heard.
    cache_hears c applies w run n kept input later ended s after is heard
