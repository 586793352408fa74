use Rattle.std.proofs.Common.{rules}
use Rattle.text_words.specs.Numbers.{unsigned_of}
use Rattle.text_words.proofs.numbers.unsigned.Goals as goal

pub returns-then-is_unsigned : goal.returns-then-is_unsigned
unfolding unsigned_of
returns-then-is_unsigned c = search rules

pub returns-else-is_unsigned : goal.returns-else-is_unsigned
unfolding unsigned_of
returns-else-is_unsigned c = search rules
