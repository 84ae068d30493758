use Rattle.mrp_agent.proofs.Gathers as gather
use Rattle.mrp_agent.proofs.gathering.gather.Goals as goal

pub returns : goal.returns
returns c =
    gather.turned_back c.args.network.now c.in_ok-plans.plans.items c.as_mut_slice-2.result.now c.reverse.new.self c.in_ok-plans.plans.len c.in_ok-plans.ensures
    c.as_mut_slice-2.ensures.value c.reverse.ensures.after c.in_ok-plans.plans.ok.0
