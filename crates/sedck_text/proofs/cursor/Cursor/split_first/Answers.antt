use Rattle.sedck_text.proofs.Cursors.{follows_first}
use Rattle.sedck_text.proofs.cursor.Cursor.split_first.Goals as goal

pub returns-clause-ahead : goal.returns-clause-ahead
returns-clause-ahead c = (c.advance.ensures, follows_first c.in_ok-first.ensures.1 c.advance.ensures)
