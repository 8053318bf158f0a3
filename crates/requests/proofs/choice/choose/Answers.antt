use Rattle.requests.proofs.ChoiceLaws.{trying}
use Rattle.requests.proofs.choice.choose.Goals as goal

pub loop-list-init : goal.loop-list-init
loop-list-init c = trying c.args.entries.now c.args.portal c.args.a.now
