use Rattle.std.proofs.Common.{Some}
use Rattle.txn_script_lines.proofs.Cuts.{clash, view_same, no_view}
use Rattle.txn_script_lines.proofs.calls.read_update.Goals as goal

pub returns-in-Some-Some-default-clause-all : goal.returns-in-Some-Some-default-clause-all
returns-in-Some-Some-default-clause-all g c view value fits e = view_same c.in_ok-view.field-0 _ c.in-Some-Some-default.view view value c.in-Some-Some-default.value (c.in_ok-view.ensures.all (Some view) value fits e) c.in-Some-Some-default.is c.in-Some-Some-default.field-0-0-is

pub returns-in-Some-None-default-clause-all : goal.returns-in-Some-None-default-clause-all
returns-in-Some-None-default-clause-all g c view value fits e = absurd (no_view c.in_ok-view.field-0 _ view value _ (c.in_ok-view.ensures.all (Some view) value fits e) c.in-Some-None-default.is c.in-Some-None-default.field-0-0-is)

pub returns-in-None-clause-all : goal.returns-in-None-clause-all
returns-in-None-clause-all g c view value fits e = absurd (clash c.in_ok-view.field-0 (Some view, value) (c.in_ok-view.ensures.all (Some view) value fits e) c.in-None.is)
