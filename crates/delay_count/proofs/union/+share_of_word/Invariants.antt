use Rattle.delay_count.proofs.union.+share_of_word.Given as goal

abbrev pub decreases-share_of_word : goal.decreases-share_of_word
decreases-share_of_word l = l.tasks
