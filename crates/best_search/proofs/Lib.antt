mod PlanLaws
mod RoomLaws
mod AnyLaws
