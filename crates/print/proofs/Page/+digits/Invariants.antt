-- `print::Page::digits`: each call types one digit fewer before its own.
use Rattle.print.proofs.Page.+digits.Given as goal

abbrev pub decreases-digits : goal.decreases-digits
decreases-digits l = l.n
