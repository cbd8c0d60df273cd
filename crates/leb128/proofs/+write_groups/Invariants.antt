use Rattle.leb128.proofs.+write_groups.Given as goal

abbrev pub decreases-write-groups : goal.decreases-write-groups
decreases-write-groups l = l.left
