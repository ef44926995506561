use Rattle.std.proofs.Common.{rules}
use Rattle.forms.proofs.Laws.{node_key, key_word}
use Rattle.forms.proofs.read_key.Goals as goal

pub returns-in-110-clause-end_value : goal.returns-in-110-clause-end_value
returns-in-110-clause-end_value c = search (rules, node_key)

pub returns-clause-end_value : goal.returns-clause-end_value
returns-clause-end_value c = search (rules, key_word)
