use Rattle.vw_app.proofs.Readback.{are_functions, states_fit}
use Rattle.vw_app.proofs.selftest.least_tables_are_of_functions.Goals as goal

pub returns-clause-functions : goal.returns-clause-functions
returns-clause-functions c =
    are_functions c.functions_are_code.ensures c.segments_are_bounded.ensures c.functions_ascend.ensures.ascend c.functions_ascend.ensures.few c.least_tables_are_of_points.ensures
    c.args.loaded.now c.requires.whole c.args.tables.now.functions c.requires.least

pub returns-clause-few : goal.returns-clause-few
returns-clause-few c =
    states_fit c.functions_are_code.ensures c.segments_are_bounded.ensures c.functions_ascend.ensures.ascend c.functions_ascend.ensures.few c.least_tables_are_of_points.ensures
    c.args.loaded.now c.requires.whole c.args.tables.now.functions c.requires.least
