use Rattle.reference.proofs.header.put_number.Given as goal

-- What is left is divided by 128 each time.
abbrev pub decreases-loop-left : goal.decreases-loop-left
decreases-loop-left l = l.left
