use Rattle.mrp_api.proofs.lines.send_line.Goals as goal

pub returns-in-SupplyTooLarge : goal.returns-in-SupplyTooLarge
returns-in-SupplyTooLarge g c = rw c.in-SupplyTooLarge.is c.send_pair_line.ensures

pub returns-in-NeedTooLarge : goal.returns-in-NeedTooLarge
returns-in-NeedTooLarge g c = rw c.in-NeedTooLarge.is c.send_pair_line-in-NeedTooLarge.ensures

pub returns-in-NoPair : goal.returns-in-NoPair
returns-in-NoPair g c = rw c.in-NoPair.is c.send_words.ensures

pub returns-in-NoPeriod : goal.returns-in-NoPeriod
returns-in-NoPeriod g c = rw c.in-NoPeriod.is c.send_words-in-NoPeriod.ensures

pub returns-in-ThreadRefused : goal.returns-in-ThreadRefused
returns-in-ThreadRefused g c = rw c.in-ThreadRefused.is c.send_words-in-ThreadRefused.ensures

pub returns-in-Stopped : goal.returns-in-Stopped
returns-in-Stopped g c = rw c.in-Stopped.is c.send_words-in-Stopped.ensures

pub returns-in-WriteFault : goal.returns-in-WriteFault
returns-in-WriteFault g c = rw c.in-WriteFault.is c.send_words-in-WriteFault.ensures

pub returns-in-Memory : goal.returns-in-Memory
returns-in-Memory g c = rw c.in-Memory.is c.send_words-in-Memory.ensures

pub returns-in-NoPlant : goal.returns-in-NoPlant
returns-in-NoPlant g c = rw c.in-NoPlant.is c.send_words-in-NoPlant.ensures
