-- Serves private contracts: the fields of a controller and of a plant, as views and invariants see
-- them.
use Rattle.dsv_reader.specs.declared.controller.Controller.TheInside.{Inside}
use Rattle.dsv_reader.specs.declared.plant.Plant.TheInside as plant
use Rattle.dsv_reader.specs.Controllers.{ControllerView}
use Rattle.dsv_reader.specs.Plants.{PlantView}

abbrev pub view_of : Inside → ControllerView
view_of c =
    record {
      b = c.b.items;
      a = c.a.items;
      sample_time = c.sample_time;
      int_bits = c.int_bits;
      frac_bits = c.frac_bits;
      max = c.max;
      min = c.min;
      delta = c.delta;
      clock = c.clock;
      costs = c.costs;
      wide = c.wide;
    }

abbrev pub plant_view_of : plant.Inside → PlantView
plant_view_of p = record { b = p.b.items; a = p.a.items; sample_time = p.sample_time }
