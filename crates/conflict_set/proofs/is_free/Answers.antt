use mathlib.Core.Path.{refl}
use Rattle.conflict_set.specs.SearchLaws.{free_on, free_law}
use Rattle.conflict_set.proofs.is_free.Goals as goal

pub returns-in-On : goal.returns-in-On
returns-in-On c = free_on (c.args.m.now) (c.args.c) _ _ _ (c.lead_from.ensures) _ (c.in-On.is)

pub returns-in-On-lead_from : goal.returns-in-On-lead_from
returns-in-On-lead_from c = free_law (c.args.m.now) (c.args.c) _ _ _ (c.lead_from.ensures) _ (c.lead_from-in-Open.ensures) _ _ (c.in-Open.is) (c.in-On-lead_from.is) _ refl

pub returns-in-Open-lead_from : goal.returns-in-Open-lead_from
returns-in-Open-lead_from c = free_law (c.args.m.now) (c.args.c) _ _ _ (c.lead_from.ensures) _ (c.lead_from-in-Open.ensures) _ _ (c.in-Open.is) (c.in-Open-lead_from.is) _ (c.can_meet.ensures)

pub returns-in-Nowhere-lead_from : goal.returns-in-Nowhere-lead_from
returns-in-Nowhere-lead_from c = free_law (c.args.m.now) (c.args.c) _ _ _ (c.lead_from.ensures) _ (c.lead_from-in-Open.ensures) _ _ (c.in-Open.is) (c.in-Nowhere-lead_from.is) _ (c.is_regular.ensures)

pub returns-in-On-lead_from-2 : goal.returns-in-On-lead_from-2
returns-in-On-lead_from-2 c = free_law (c.args.m.now) (c.args.c) _ _ _ (c.lead_from.ensures) _ (c.lead_from-in-Nowhere.ensures) _ _ (c.in-Nowhere.is) (c.in-On-lead_from-2.is) _ refl

pub returns-in-Open-lead_from-2 : goal.returns-in-Open-lead_from-2
returns-in-Open-lead_from-2 c = free_law (c.args.m.now) (c.args.c) _ _ _ (c.lead_from.ensures) _ (c.lead_from-in-Nowhere.ensures) _ _ (c.in-Nowhere.is) (c.in-Open-lead_from-2.is) _ (c.is_regular-in-Open-lead_from-2.ensures)

pub returns-in-Nowhere-lead_from-2 : goal.returns-in-Nowhere-lead_from-2
returns-in-Nowhere-lead_from-2 c = free_law (c.args.m.now) (c.args.c) _ _ _ (c.lead_from.ensures) _ (c.lead_from-in-Nowhere.ensures) _ _ (c.in-Nowhere.is) (c.in-Nowhere-lead_from-2.is) _ refl
