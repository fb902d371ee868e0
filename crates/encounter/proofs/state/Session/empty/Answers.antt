use mathlib.Core.Path.{◌≡◌, sym, subst}
use native.Mathlib.Omega.{arith}
use Rattle.encounter.specs.Session.{empty}
use Rattle.encounter.specs.Calls.{Reached, from_empty}
use Rattle.encounter.proofs.calls.Claiming.{claims}
use Rattle.encounter.proofs.state.Session.empty.Goals as goal

pub returns-clause-value : goal.returns-clause-value
returns-clause-value c =
    let e : c.default.result ≡ empty = grind (arith, c.default.ensures) in
    (e, subst Reached (sym e) from_empty)

pub returns-clause-claims : goal.returns-clause-claims
returns-clause-claims c = claims
