-- Each form's function judges by the form's words and wires; the counts then fit, and the answer is the definition's.
use mathlib.Core.Path.{refl, ap}
use mathlib.Core.Bool.{true, false}
use native.Mathlib.Omega.{arith}
use Rattle.checker.specs.Internal.Notes.{noted, wanted}
use Rattle.checker.specs.Internal.Adding.{row_broken, wires_at}
use Rattle.checker.proofs.Adding.{asked, fits, adds}
use Rattle.checker.proofs.frame.add.Goals as goal

pub bounds-ops-0 : goal.bounds-ops-0
bounds-ops-0 c = omega (arith, asked c.requires.1 c.in-Stage.is)

pub bounds-ops-0-in-Constant : goal.bounds-ops-0-in-Constant
bounds-ops-0-in-Constant c = omega (arith, asked c.requires.1 c.in-Constant.is)

pub bounds-ops-1 : goal.bounds-ops-1
bounds-ops-1 c = omega (arith, asked c.requires.1 c.in-Constant.is)

pub bounds-ops-2 : goal.bounds-ops-2
bounds-ops-2 c = omega (arith, asked c.requires.1 c.in-Constant.is)

pub bounds-ops-0-in-Sum : goal.bounds-ops-0-in-Sum
bounds-ops-0-in-Sum c = omega (arith, asked c.requires.1 c.in-Sum.is)

pub bounds-ops-1-in-Sum : goal.bounds-ops-1-in-Sum
bounds-ops-1-in-Sum c = omega (arith, asked c.requires.1 c.in-Sum.is)

pub bounds-ops-0-in-Copy : goal.bounds-ops-0-in-Copy
bounds-ops-0-in-Copy c = omega (arith, asked c.requires.1 c.in-Copy.is)

pub bounds-ops-0-in-Row : goal.bounds-ops-0-in-Row
bounds-ops-0-in-Row c = omega (arith, asked c.requires.1 c.in-Row.is)

pub product-requires : goal.product-requires
product-requires c = (c.requires.0.room, omega (arith, c.requires.1.least), c.requires.1.most, asked c.requires.1 c.in-Product.is)

pub grown-requires-in-Product : goal.grown-requires-in-Product
grown-requires-in-Product c = fits c.requires.1 c.in-Product.is c.product.ensures refl refl c.requires.0 c.in_ok-product-in-Product.was

pub refresh-requires : goal.refresh-requires
refresh-requires c = (c.requires.0.room, omega (arith, c.requires.1.least), c.requires.1.most, asked c.requires.1 c.in-Refresh.is)

pub grown-requires-in-Refresh : goal.grown-requires-in-Refresh
grown-requires-in-Refresh c = fits c.requires.1 c.in-Refresh.is c.refresh.ensures refl refl c.requires.0 c.in_ok-refresh-in-Refresh.was

pub row-requires : goal.row-requires
row-requires c = (c.requires.0.room, omega (arith, c.requires.1.most, asked c.requires.1 c.in-Row.is))

pub returns-in_ok-stage-in-Stage : goal.returns-in_ok-stage-in-Stage
returns-in_ok-stage-in-Stage c = adds c.requires.1 c.in-Stage.is c.stage.ensures refl refl c.in_ok-stage-in-Stage.was c.grown-in-Stage.ensures c.with_input.ensures

pub returns-in_ok-constant-in-Constant : goal.returns-in_ok-constant-in-Constant
returns-in_ok-constant-in-Constant c = adds c.requires.1 c.in-Constant.is c.constant.ensures refl refl c.in_ok-constant-in-Constant.was c.grown-in-Constant.ensures refl

pub returns-in_ok-sum-in-Sum : goal.returns-in_ok-sum-in-Sum
returns-in_ok-sum-in-Sum c = adds c.requires.1 c.in-Sum.is c.sum.ensures refl refl c.in_ok-sum-in-Sum.was c.grown-in-Sum.ensures refl

pub returns-in_ok-copy-in-Copy : goal.returns-in_ok-copy-in-Copy
returns-in_ok-copy-in-Copy c = adds c.requires.1 c.in-Copy.is c.copy.ensures refl refl c.in_ok-copy-in-Copy.was c.grown-in-Copy.ensures refl

pub returns-in_ok-product-in-Product : goal.returns-in_ok-product-in-Product
returns-in_ok-product-in-Product c = adds c.requires.1 c.in-Product.is c.product.ensures refl refl c.in_ok-product-in-Product.was c.grown-in-Product.ensures refl

pub returns-in_ok-refresh-in-Refresh : goal.returns-in_ok-refresh-in-Refresh
returns-in_ok-refresh-in-Refresh c = adds c.requires.1 c.in-Refresh.is c.refresh.ensures refl refl c.in_ok-refresh-in-Refresh.was c.grown-in-Refresh.ensures refl

pub returns-in_ok-row-in-Row : goal.returns-in_ok-row-in-Row
returns-in_ok-row-in-Row c =
    let a = c.args in
    let shown = c.stage_shown-stage.ensures in
    adds c.requires.1 c.in-Row.is c.row.ensures (ap (λ t. row_broken (noted a.notes.now a.tally.wires) (wanted t 0 true) 1 0 a.ops.now) shown) (ap (λ t. wires_at 0 0 t false) shown)
    c.in_ok-row-in-Row.was c.grown-in-Row.ensures c.with_output.ensures
