-- What a scaling record that is lent is, and its parts. Definitions only.
use Rattle.cone.specs.declared.Cone.{Cone}
use Rattle.cone.specs.declared.Three.{Three}
use Rattle.cone.specs.declared.Wide.{Wide}
use Rattle.cone.specs.declared.Scaling.{Scaling}
use Rattle.cone.specs.declared.lent.LentCone.{LentCone}
use Rattle.cone.specs.declared.lent.LentThree.{LentThree}
use Rattle.cone.specs.declared.lent.LentWide.{LentWide}
use Rattle.cone.specs.declared.lent.LentScaling.{LentScaling}

abbrev pub cone_at : LentCone → Cone
cone_at c = record { kind = c.kind; dim1 = c.dim1; dim2 = c.dim2; rule = c.rule; exps = c.exps.now }

abbrev pub three_at : LentThree → Three
three_at t = record { z = t.z.now; grad = t.grad.now; hdual = t.hdual.now; hs = t.hs.now }

abbrev pub wide_at : LentWide → Wide
wide_at w = record {
  z = w.z.now;
  mu = w.mu;
  grad = w.grad.now;
  p = w.p.now;
  q = w.q.now;
  r = w.r.now;
  d1 = w.d1.now;
  d2 = w.d2;
}

abbrev pub scaling_at : LentScaling → Scaling
scaling_at s = record {
  cone = cone_at s.cone;
  scaled = s.scaled;
  serial = s.serial;
  three = three_at s.three;
  wide = wide_at s.wide;
}
