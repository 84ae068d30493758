use Rattle.std.proofs.Common.{get_or}
use Rattle.std.proofs.lemmas.List.{get_or_default}
use Rattle.mrp_run.proofs.Dealt.{sends_dealt}
use Rattle.mrp_run.proofs.dealing.deal_send.Goals as goal

pub returns : goal.returns
returns c N ns ts owner empty idle =
    let P = get_or c.args.plants.now c.args.sender.0 c.index-plants-sender.result in
    sends_dealt N ns ts c.args.plants.now c.args.sender.0 P c.args.end c.push.new.self c.requires.there
    (get_or_default c.args.plants.now c.args.sender.0 c.index-plants-sender.result P c.requires.there) c.in_ok-push.ensures.items owner empty idle
