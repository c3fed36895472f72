-- One digit, two, or as many as there are.
use Rattle.sheet.proofs.BookText.{one_digit, value_put}
use Rattle.sheet.proofs.writing.put_value.Goals as goal

pub returns-then-n-lt10 : goal.returns-then-n-lt10
returns-then-n-lt10 c =
    rw (one_digit _ c.if-n-lt10.true) c.put.ensures

pub returns-then-n-lt100 : goal.returns-then-n-lt100
returns-then-n-lt100 c =
    value_put _ c.if-n-lt10.false c.if-n-lt100.true c.put-tens.ensures c.put-then-n-lt100.ensures
