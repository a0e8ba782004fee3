use Rattle.sedck_bre.proofs.Common.{ap, ◌∙◌, tree, tree-Group, names_pow}
use Rattle.std.proofs.lemmas.Nat.{one_shl}
use Rattle.sedck_bre.proofs.outside.group_bit.Goals as goal

pub returns-in-Group : goal.returns-in-Group
returns-in-Group c k l =
    let shape = ap tree c.in-Group.is ∙ tree-Group c.in-Group.k c.in-Group.field-1 in
    rw (shape, one_shl c.in-Group.k 16 c.if-k-lt16.true) (names_pow c.in-Group.k k)
