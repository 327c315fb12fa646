use Rattle.domain_obj.proofs.turns.end_long_chapter.Given as goal

abbrev pub ghost-end_chapter_as : goal.ghost-end_chapter_as
ghost-end_chapter_as g a = a.turn.now.pass.number
