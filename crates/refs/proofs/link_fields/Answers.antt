use Rattle.std.proofs.Common.{rules}
use Rattle.refs.proofs.Laws.{links_none, links_start, linked_all, turn_bad, turn}
use Rattle.refs.proofs.link_fields.Goals as goal

pub returns-then-b-m-gt-MOST_FIELDS : goal.returns-then-b-m-gt-MOST_FIELDS
returns-then-b-m-gt-MOST_FIELDS c = search (rules, links_none)

pub loop-i-init : goal.loop-i-init
loop-i-init c = (search rules, search (rules, links_start))

pub loop-i-preserved : goal.loop-i-preserved
loop-i-preserved c = (search rules, turn _ _ _ _ _ _ _ _ _ c.loop-i.invariant.1 c.loop-i-test.true _ _ _ c.kind_at-k.ensures c.tag_of-tag.ensures c.value_of-x.ensures _ c.right.ensures _ _ _ c.if-not-right.false c.levels_in-levels.ensures c.max-d.ensures c.take_child.ensures)

pub returns-then-not-right : goal.returns-then-not-right
returns-then-not-right c = turn_bad _ _ _ _ _ _ _ _ _ c.loop-i.invariant.1 c.loop-i-test.true _ _ _ c.kind_at-k.ensures c.tag_of-tag.ensures c.value_of-x.ensures _ c.right.ensures c.if-not-right.true

pub returns : goal.returns
returns c = search (rules, linked_all)
