-- State-space controllers that are worked by hand, in words of 2.2: the word w stands for w / 4, and words are -8 to 7.
use Rattle.std.proofs.Common.{◌≡◌, [], ◌∷◌, refl}
use Rattle.std.proofs.Math.IntN.{pos, negsuc}
use Rattle.dsv_algebra.specs.Vectors.{Matrix, matrix_of}
use Rattle.dsv_meaning.proofs.WorkedControllers.{exact_of, outputs_of, format_2_2}
use Rattle.dsv_system.specs.Systems.{rows}
use Rattle.dsv_state_space.specs.Equations.{state_sample, state_space_of}
use Rattle.dsv_state_space.specs.StateForms.{loss_entry}
use Rattle.dsv_state_space.specs.StateView.{StateView}

-- x' = x + u, y = x, with the input 1
integrator : StateView
integrator = record { a = (pos 4 ∷ []) ∷ []; b = pos 4 ∷ []; c = pos 4 ∷ []; d = pos 0; xlo = pos 4; xhi = pos 4; format = format_2_2 }

integrator_exact : exact_of (rows (state_space_of integrator) (pos 0 ∷ []) (pos 4 ∷ pos 4 ∷ []))
    ≡ (pos 0 ∷ pos 0 ∷ pos 0 ∷ pos 4 ∷ pos 0 ∷ pos 4 ∷ []) ∷ (pos 0 ∷ pos 4 ∷ pos 4 ∷ pos 4 ∷ pos 4 ∷ pos 8 ∷ []) ∷ []
unfolding integrator
integrator_exact = refl

integrator_outputs : outputs_of (rows (state_space_of integrator) (pos 0 ∷ []) (pos 4 ∷ pos 4 ∷ [])) ≡ pos 0 ∷ pos 4 ∷ []
unfolding integrator
integrator_outputs = refl

-- x1' = 0.5 x1 + 0.25 x2, x2' = 0.5 x2 + u, y = x1 + 0.5 x2 + 0.5 u
two_states : StateView
two_states = record {
  a = (pos 2 ∷ pos 1 ∷ []) ∷ (pos 0 ∷ pos 2 ∷ []) ∷ [];
  b = pos 0 ∷ pos 4 ∷ [];
  c = pos 4 ∷ pos 2 ∷ [];
  d = pos 2;
  xlo = negsuc 3;
  xhi = pos 4;
  format = format_2_2;
}

-- from the states 1 and -1, at the input 1
two_states_sample : state_sample two_states (pos 4 ∷ negsuc 3 ∷ []) (pos 4) ≡ record {
  y = pos 4;
  exact = pos 2 ∷ pos 4 ∷ pos 6 ∷ negsuc 1 ∷ pos 4 ∷ pos 0 ∷ pos 2 ∷ pos 2 ∷ negsuc 0 ∷ pos 1 ∷ pos 4 ∷ pos 0 ∷ pos 4 ∷ negsuc 1 ∷ pos 2 ∷ [];
  past = pos 1 ∷ pos 2 ∷ [];
}
unfolding two_states
two_states_sample = refl

-- what v1^2 + v2^2 loses in a step of this matrix over 4
squares_form : Matrix
squares_form = matrix_of ((pos 1 ∷ pos 0 ∷ []) ∷ (pos 0 ∷ pos 1 ∷ []) ∷ [])

steps : Matrix
steps = matrix_of ((pos 2 ∷ pos 1 ∷ []) ∷ (pos 0 ∷ pos 2 ∷ []) ∷ [])

squares_loss : (loss_entry 2 (pos 4) steps squares_form 0 0 ∷ loss_entry 2 (pos 4) steps squares_form 0 1 ∷ loss_entry 2 (pos 4) steps squares_form 1 0 ∷ loss_entry 2 (pos 4) steps squares_form 1 1 ∷ [])
    ≡ pos 12 ∷ negsuc 1 ∷ negsuc 1 ∷ pos 11 ∷ []
unfolding steps squares_form
squares_loss = refl
