use Rattle.mrp_loops.proofs.Codes.{edge_raises, loop_free}
use Rattle.mrp_loops.proofs.Coded.{codes_exist}
use Rattle.mrp_loops.proofs.Upstream.{codes_are_one}
use Rattle.mrp_loops.proofs.laws.codes_rise.Goals as goal

pub returns-clause-rise : goal.returns-clause-rise
returns-clause-rise c = edge_raises

pub returns-clause-free : goal.returns-clause-free
returns-clause-free c = loop_free

pub returns-clause-exist : goal.returns-clause-exist
returns-clause-exist c = codes_exist

pub returns-clause-one : goal.returns-clause-one
returns-clause-one c = codes_are_one
