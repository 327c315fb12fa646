use Rattle.store_reading.proofs.Naming.{ending_none, file_of, hyphen_none, word_none}
use Rattle.store_reading.proofs.file_name.uuid_in.Goals as goal

pub returns-in-Some-strip_end : goal.returns-in-Some-strip_end
returns-in-Some-strip_end c = file_of c.args.word.now c.args.ending.now c.args.name.now c.in-Some.rest.now c.in-Some-after_hyphen.rest.now c.in-Some-strip_end.digits.now c.spelled.result
    c.in-Some.ensures c.in-Some-after_hyphen.ensures c.in-Some-strip_end.ensures c.spelled.ensures

pub returns-in-None-strip_end : goal.returns-in-None-strip_end
returns-in-None-strip_end c = ending_none c.args.word.now c.args.ending.now c.args.name.now c.in-Some.rest.now c.in-Some-after_hyphen.rest.now
    c.in-Some.ensures c.in-Some-after_hyphen.ensures c.in-None-strip_end.ensures

pub returns-in-None-after_hyphen : goal.returns-in-None-after_hyphen
returns-in-None-after_hyphen c = hyphen_none c.args.word.now c.args.ending.now c.args.name.now c.in-Some.rest.now c.in-Some.ensures c.in-None-after_hyphen.ensures

pub returns-in-None : goal.returns-in-None
returns-in-None c = word_none c.args.word.now c.args.ending.now c.args.name.now c.in-None.ensures
