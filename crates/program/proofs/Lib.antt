mod WholeLaws
