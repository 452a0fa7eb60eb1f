-- Forms and squares of fewer than eight places, filled up with 0.
use Rattle.std.specs.Prelude.{ℕ, List, [], ◌++◌, length, map, take, replicate, ℤ, pos}
use Rattle.dsv_forms.specs.declared.offers.Falls.{Falls}
use Rattle.dsv_forms.specs.declared.offers.Form.{Form}
use Rattle.dsv_forms.specs.declared.offers.Squares.{Squares}
use Rattle.dsv_forms.specs.Poly.{greatest_order}

-- eight entries: these, and then 0
abbrev pub row_of : List ℤ → List ℤ
row_of xs = take greatest_order (xs ++ replicate greatest_order (pos 0))

-- eight rows of eight entries: these, and 0 elsewhere
abbrev pub matrix_with : List (List ℤ) → List (List ℤ)
matrix_with rows = take greatest_order (map row_of rows ++ replicate greatest_order (row_of []))

-- the form with these rows
abbrev pub form_with : List (List ℤ) → Form
form_with rows = record { d = length rows; rows = matrix_with rows }

-- m times a form as squares of these weights and rows, and this rest
abbrev pub squares_with : ℤ → List ℤ → List (List ℤ) → List (List ℤ) → Squares
squares_with m weights rows rest =
    record {
      m = m;
      count = length weights;
      weights = row_of weights;
      rows = matrix_with rows;
      rest = matrix_with rest;
    }

-- ---- an offer with the numbers of its places alone
-- the first d places of the first n rows
abbrev pub corner : ℕ → ℕ → List (List ℤ) → List (List ℤ)
corner n d rows = map (take d) (take n rows)

-- the form with its places alone, and 0 elsewhere
abbrev pub form_alone : Form → Form
form_alone f = record { d = f.d; rows = matrix_with (corner f.d f.d f.rows) }

-- the squares of rows of d places with their places alone, and 0 elsewhere
abbrev pub squares_alone : ℕ → Squares → Squares
squares_alone d s =
    record {
      m = s.m;
      count = s.count;
      weights = row_of (take s.count s.weights);
      rows = matrix_with (corner s.count d s.rows);
      rest = matrix_with (corner d d s.rest);
    }

-- the offer with its places alone, and 0 elsewhere
abbrev pub offer_alone : Falls → Falls
offer_alone offer =
    record {
      form = form_alone offer.form;
      positive = squares_alone offer.form.d offer.positive;
      fall = squares_alone offer.form.d offer.fall;
    }
